-- The results of operators, on integers of a type, on offsets and on texts.
use Rattle.std.specs.Prelude.{ℕ, zero, suc, ◌-◌, ◌%◌, ◌^◌, Bool, true, false, not, ◌&&◌, ◌||◌, if◌then◌else◌, nat_lt, List, Result, Ok, Err, ℤ, pos, negsuc, ◌+ℤ◌, ◌-ℤ◌, ◌*ℤ◌, neg_ℤ, int_lt, int_le, int_div, int_rem, bit_and, bit_or, bit_xor, bytes_eq}
use lib.Signed.{shr_z}
use Rattle.bit_space.specs.Bits.{twos_complement}
use Rattle.pickle_tree.specs.declared.tree.Prefix.{Prefix}
use Rattle.pickle_tree.specs.declared.tree.Prefix.TheVariants.{Plus, Minus, Complement, Not}
use Rattle.pickle_tree.specs.declared.tree.Infix.{Infix}
use Rattle.pickle_tree.specs.declared.tree.Infix.TheVariants.{LogicalOr, LogicalAnd, BitOr, BitXor, BitAnd, Equal, NotEqual, Less, LessEqual, Greater, GreaterEqual, ShiftLeft, ShiftRight, Add, Subtract, Multiply, Divide, Remainder}
use Rattle.pickle_types.specs.declared.integer.IntegerType.{IntegerType}
use Rattle.pickle_types.specs.Operators.{common, greatest_divisor}
use Rattle.pickle_meaning.specs.declared.faults.MapFaultKind.{MapFaultKind}
use Rattle.pickle_meaning.specs.declared.faults.MapFaultKind.TheVariants as fault
use Rattle.pickle_meaning.specs.Values.{Label, IntegerLabel, OffsetLabel, TextLabel}

-- a result, or the fault without its place
abbrev pub Computed : Type 0
Computed = Result Label MapFaultKind

abbrev pub signed_type : ℕ → IntegerType
signed_type width = record { width = width; signed = true }

abbrev pub unsigned_type : ℕ → IntegerType
unsigned_type width = record { width = width; signed = false }

-- z modulo 2 ^ width, which isn't negative
unfoldable pub modulo : ℕ → ℤ → ℕ
modulo width (pos n) = n % 2 ^ width
modulo width (negsuc n) = 2 ^ width - 1 - n % 2 ^ width

-- the number of a type whose binary digits are those of n, which is less than 2 ^ width
unfoldable pub with_sign : IntegerType → ℕ → ℤ
with_sign type n = if type.signed then twos_complement type.width n else pos n

-- z converted: taken modulo 2 ^ width into the range of the type
unfoldable pub converted : IntegerType → ℤ → ℤ
converted type z = with_sign type (modulo type.width z)

-- whether z is in the range of signed integers of a width
unfoldable pub is_signed_in : ℕ → ℤ → Bool
is_signed_in width (pos n) = nat_lt n (2 ^ (width - 1))
is_signed_in width (negsuc n) = nat_lt n (2 ^ (width - 1))

-- z brought to a type: modulo 2 ^ width for an unsigned type; z itself for a signed type, if it is in range
unfoldable pub brought : IntegerType → ℤ → Result ℤ MapFaultKind
brought type z = if type.signed then (if is_signed_in type.width z then Ok z else Err fault.Overflow)
    else Ok (pos (modulo type.width z))

abbrev pub as_integer : IntegerType → Result ℤ MapFaultKind → Computed
as_integer type (Ok z) = Ok (IntegerLabel z type)
as_integer type (Err f) = Err f

abbrev pub as_offset : IntegerType → ℕ → Result ℤ MapFaultKind → Computed
as_offset type unit (Ok z) = Ok (OffsetLabel z type unit)
as_offset type unit (Err f) = Err f

abbrev pub brought_integer : IntegerType → ℤ → Computed
brought_integer type z = as_integer type (brought type z)

abbrev pub brought_offset : IntegerType → ℕ → ℤ → Computed
brought_offset type unit z = as_offset type unit (brought type z)

-- a truth as an integer
abbrev pub truth : Bool → Computed
truth b = Ok (IntegerLabel (if b then pos 1 else pos 0) (signed_type 32))

abbrev pub is_zero : ℤ → Bool
is_zero (pos zero) = true
is_zero (pos (suc n)) = false
is_zero (negsuc n) = false

abbrev pub int_eq : ℤ → ℤ → Bool
int_eq x y = int_le x y && int_le y x

-- the exact bits of an offset
abbrev pub bits_in : ℤ → ℕ → ℤ
bits_in magnitude unit = magnitude *ℤ pos unit

-- no well typed expression gives this
abbrev pub wrong_sort : Computed
wrong_sort = Err fault.Absent

-- the result of a prefix
unfoldable pub prefixed : Prefix → Label → Computed
prefixed Plus (IntegerLabel x type) = brought_integer type x
prefixed Plus (OffsetLabel x type unit) = brought_offset type unit x
prefixed Minus (IntegerLabel x type) = brought_integer type (neg_ℤ x)
prefixed Minus (OffsetLabel x type unit) = brought_offset type unit (neg_ℤ x)
prefixed Complement (IntegerLabel x type) = Ok (IntegerLabel (converted type (neg_ℤ x -ℤ pos 1)) type)
prefixed Not (IntegerLabel x type) = truth (is_zero x)
prefixed op x = wrong_sort

-- x shifted: to the left it is brought to its type, to the right it is rounded down
unfoldable pub shifted_left : ℤ → IntegerType → ℤ → Computed
shifted_left x type (pos n) = if nat_lt n type.width then brought_integer type (x *ℤ pos (2 ^ n)) else Err fault.Index
shifted_left x type (negsuc n) = Err fault.Index

unfoldable pub shifted_right : ℤ → IntegerType → ℤ → Computed
shifted_right x type (pos n) = if nat_lt n type.width then Ok (IntegerLabel (shr_z x (2 ^ n)) type) else Err fault.Index
shifted_right x type (negsuc n) = Err fault.Index

-- an operation bit by bit on the binary digits of two numbers of one type
abbrev pub bit_by_bit : (ℕ → ℕ → ℕ) → IntegerType → ℤ → ℤ → Computed
bit_by_bit f type x y = Ok (IntegerLabel (with_sign type (f (modulo type.width x) (modulo type.width y))) type)

-- an operator on two integers that were converted to their common type; shifts, `&&` and `||` aren't computed here
unfoldable pub on_common : Infix → IntegerType → ℤ → ℤ → Computed
on_common LogicalOr type x y = wrong_sort
on_common LogicalAnd type x y = wrong_sort
on_common BitOr type x y = bit_by_bit bit_or type x y
on_common BitXor type x y = bit_by_bit bit_xor type x y
on_common BitAnd type x y = bit_by_bit bit_and type x y
on_common Equal type x y = truth (int_eq x y)
on_common NotEqual type x y = truth (not (int_eq x y))
on_common Less type x y = truth (int_lt x y)
on_common LessEqual type x y = truth (int_le x y)
on_common Greater type x y = truth (int_lt y x)
on_common GreaterEqual type x y = truth (int_le y x)
on_common ShiftLeft type x y = wrong_sort
on_common ShiftRight type x y = wrong_sort
on_common Add type x y = brought_integer type (x +ℤ y)
on_common Subtract type x y = brought_integer type (x -ℤ y)
on_common Multiply type x y = brought_integer type (x *ℤ y)
on_common Divide type x y = if is_zero y then Err fault.Zero else brought_integer type (int_div x y)
on_common Remainder type x y = if is_zero y then Err fault.Zero else brought_integer type (int_rem x y)

-- an operator on two integers
unfoldable pub on_integers : Infix → ℤ → IntegerType → ℤ → IntegerType → Computed
on_integers LogicalOr x t y u = truth (not (is_zero x) || not (is_zero y))
on_integers LogicalAnd x t y u = truth (not (is_zero x) && not (is_zero y))
on_integers ShiftLeft x t y u = shifted_left x t y
on_integers ShiftRight x t y u = shifted_right x t y
on_integers op x t y u = on_common op (common t u) (converted (common t u) x) (converted (common t u) y)

-- an operator on the exact bits of two offsets, with their common integer type and the greatest common divisor of their
-- units
unfoldable pub on_bits : Infix → IntegerType → (unit : ℕ) → ℤ → ℤ → Computed
on_bits Equal type unit x y = truth (int_eq x y)
on_bits NotEqual type unit x y = truth (not (int_eq x y))
on_bits Less type unit x y = truth (int_lt x y)
on_bits LessEqual type unit x y = truth (int_le x y)
on_bits Greater type unit x y = truth (int_lt y x)
on_bits GreaterEqual type unit x y = truth (int_le y x)
on_bits Add type unit x y = brought_offset type unit (int_div (x +ℤ y) (pos unit))
on_bits Subtract type unit x y = brought_offset type unit (int_div (x -ℤ y) (pos unit))
on_bits Divide type unit x y = if is_zero y then Err fault.Zero else brought_integer type (int_div x y)
on_bits Remainder type unit x y =
    if is_zero y then Err fault.Zero else brought_offset type unit (int_div (int_rem x y) (pos unit))
on_bits op type unit x y = wrong_sort

-- the product of a number and an offset, of a type and unit
unfoldable pub on_scaled : Infix → IntegerType → (unit : ℕ) → ℤ → ℤ → Computed
on_scaled Multiply type unit x y = brought_offset type unit (x *ℤ y)
on_scaled op type unit x y = wrong_sort

unfoldable pub on_texts : Infix → List ℕ → List ℕ → Computed
on_texts Equal x y = truth (bytes_eq x y)
on_texts NotEqual x y = truth (not (bytes_eq x y))
on_texts op x y = wrong_sort

-- an operator between two operands
unfoldable pub combined : Infix → Label → Label → Computed
combined op (IntegerLabel x t) (IntegerLabel y u) = on_integers op x t y u
combined op (IntegerLabel x t) (OffsetLabel y u n) = on_scaled op (common t u) n x y
combined op (OffsetLabel x t m) (IntegerLabel y u) = on_scaled op (common t u) m x y
combined op (OffsetLabel x t m) (OffsetLabel y u n) =
    on_bits op (common t u) (greatest_divisor m n) (bits_in x m) (bits_in y n)
combined op (TextLabel x) (TextLabel y) = on_texts op x y
combined op x y = wrong_sort

-- conversions, which never fail
unfoldable pub to_integer : IntegerType → Label → Computed
to_integer type (IntegerLabel x t) = Ok (IntegerLabel (converted type x) type)
to_integer type x = wrong_sort

-- the bits are divided by the new unit, toward 0
unfoldable pub to_offset : IntegerType → ℕ → Label → Computed
to_offset type unit (OffsetLabel x t n) = Ok (OffsetLabel (converted type (int_div (bits_in x n) (pos unit))) type unit)
to_offset type unit x = wrong_sort

unfoldable pub in_unit : ℕ → Label → Computed
in_unit unit (IntegerLabel x type) = Ok (OffsetLabel x type unit)
in_unit unit x = wrong_sort
