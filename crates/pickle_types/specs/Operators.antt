-- The types that operators give, from the types of their operands.
use Rattle.std.specs.Prelude.{ℕ, zero, suc, ◌%◌, max, Bool, true, false, ◌&&◌, nat_eq, if◌then◌else◌, Option, Some, None}
use Rattle.pickle_tree.specs.declared.tree.Prefix.{Prefix}
use Rattle.pickle_tree.specs.declared.tree.Prefix.TheVariants as prefix
use Rattle.pickle_tree.specs.declared.tree.Infix.{Infix}
use Rattle.pickle_tree.specs.declared.tree.Infix.TheVariants as operator
use Rattle.pickle_types.specs.declared.integer.IntegerType.{IntegerType}
use Rattle.pickle_types.specs.declared.check.operators.Scalar.{Scalar}
use Rattle.pickle_types.specs.declared.check.operators.Scalar.TheVariants.{Integer, Offset}
use Rattle.pickle_types.specs.declared.check.operators.Operand.{Operand}
use Rattle.pickle_types.specs.declared.check.operators.Operand.TheVariants as operand

-- the type of a truth value
abbrev pub truth : IntegerType
truth = record { width = 32; signed = true }

abbrev pub whole : ℕ → Bool → IntegerType
whole width signed = record { width = width; signed = signed }

-- the greater width, and unsigned if either is
abbrev pub common : IntegerType → IntegerType → IntegerType
common a b = record { width = max a.width b.width; signed = a.signed && b.signed }

-- the greatest common divisor, by Euclid's steps, of which there are at most n
unfoldable pub divisor_in : ℕ → ℕ → ℕ → ℕ
divisor_in zero a b = a
divisor_in (suc n) a zero = a
divisor_in (suc n) a (suc b) = divisor_in n (suc b) (a % suc b)

unfoldable pub greatest_divisor : ℕ → ℕ → ℕ
greatest_divisor a b = divisor_in (suc b) a b

-- of integers alone, to their common type
abbrev pub arithmetic : Scalar → Scalar → Option Scalar
arithmetic (Integer a) (Integer b) = Some (Integer (common a b))
arithmetic (Integer a) (Offset b v) = None
arithmetic (Offset a u) s = None

-- of integers, or of offsets to the greatest common divisor of their units
abbrev pub sum : Scalar → Scalar → Option Scalar
sum (Integer a) (Integer b) = Some (Integer (common a b))
sum (Integer a) (Offset b v) = None
sum (Offset a u) (Integer b) = None
sum (Offset a u) (Offset b v) = Some (Offset (common a b) (greatest_divisor u v))

-- of integers, or of an offset by an integer
abbrev pub product : Scalar → Scalar → Option Scalar
product (Integer a) (Integer b) = Some (Integer (common a b))
product (Integer a) (Offset b v) = Some (Offset (common a b) v)
product (Offset a u) (Integer b) = Some (Offset (common a b) u)
product (Offset a u) (Offset b v) = None

-- of integers, or of offsets
abbrev pub quotient : Scalar → Scalar → Option Scalar
quotient (Integer a) (Integer b) = Some (Integer (common a b))
quotient (Integer a) (Offset b v) = None
quotient (Offset a u) (Integer b) = None
quotient (Offset a u) (Offset b v) = Some (Integer (common a b))

-- of an integer by an integer, in the type of the first
abbrev pub shift : Scalar → Scalar → Option Scalar
shift (Integer a) (Integer b) = Some (Integer a)
shift (Integer a) (Offset b v) = None
shift (Offset a u) s = None

-- of integers
abbrev pub logic : Scalar → Scalar → Option Scalar
logic (Integer a) (Integer b) = Some (Integer truth)
logic (Integer a) (Offset b v) = None
logic (Offset a u) s = None

-- of two integers, or two offsets
abbrev pub comparison : Scalar → Scalar → Option Scalar
comparison (Integer a) (Integer b) = Some (Integer truth)
comparison (Integer a) (Offset b v) = None
comparison (Offset a u) (Integer b) = None
comparison (Offset a u) (Offset b v) = Some (Integer truth)

abbrev pub between_numbers : Infix → Scalar → Scalar → Option Scalar
between_numbers operator.LogicalOr = logic
between_numbers operator.LogicalAnd = logic
between_numbers operator.BitOr = arithmetic
between_numbers operator.BitXor = arithmetic
between_numbers operator.BitAnd = arithmetic
between_numbers operator.Equal = comparison
between_numbers operator.NotEqual = comparison
between_numbers operator.Less = comparison
between_numbers operator.LessEqual = comparison
between_numbers operator.Greater = comparison
between_numbers operator.GreaterEqual = comparison
between_numbers operator.ShiftLeft = shift
between_numbers operator.ShiftRight = shift
between_numbers operator.Add = sum
between_numbers operator.Subtract = sum
between_numbers operator.Multiply = product
between_numbers operator.Divide = quotient
between_numbers operator.Remainder = sum

-- whether the operator accepts a string and a text literal
abbrev pub is_equality : Infix → Bool
is_equality operator.Equal = true
is_equality operator.NotEqual = true
is_equality _ = false

abbrev pub between_texts : Infix → Option Scalar
between_texts op = if is_equality op then Some (Integer truth) else None

-- the type of an operator's result; none where the operands may not have these types
abbrev pub between : Infix → Operand → Operand → Option Scalar
between op (operand.Number a) (operand.Number b) = between_numbers op a b
between op (operand.Number a) operand.String = None
between op (operand.Number a) operand.Text = None
between op (operand.Number a) operand.Other = None
between op operand.String (operand.Number b) = None
between op operand.String operand.String = None
between op operand.String operand.Text = between_texts op
between op operand.String operand.Other = None
between op operand.Text (operand.Number b) = None
between op operand.Text operand.String = between_texts op
between op operand.Text operand.Text = None
between op operand.Text operand.Other = None
between op operand.Other b = None

abbrev pub before_number : Prefix → Scalar → Option Scalar
before_number prefix.Plus s = Some s
before_number prefix.Minus s = Some s
before_number prefix.Complement (Integer a) = Some (Integer a)
before_number prefix.Complement (Offset a u) = None
before_number prefix.Not (Integer a) = Some (Integer truth)
before_number prefix.Not (Offset a u) = None

abbrev pub number_in : Operand → Option Scalar
number_in (operand.Number s) = Some s
number_in operand.String = None
number_in operand.Text = None
number_in operand.Other = None

abbrev pub and_then : {A B : Type 0} → Option A → (A → Option B) → Option B
and_then None f = None
and_then (Some x) f = f x

abbrev pub before : Prefix → Operand → Option Scalar
before op o = and_then (number_in o) (before_number op)

abbrev pub integer_in : Scalar → Option IntegerType
integer_in (Integer a) = Some a
integer_in (Offset a u) = None

abbrev pub integer_operand : Operand → Option IntegerType
integer_operand o = and_then (number_in o) integer_in

abbrev pub same_sign : Bool → Bool → Bool
same_sign true s = s
same_sign false true = false
same_sign false false = true

-- whether two integer types are the same
abbrev pub same_type : IntegerType → IntegerType → Bool
same_type a b = nat_eq a.width b.width && same_sign a.signed b.signed

-- the type of a choice between two numbers: the common type of integers, or the type that both offsets have
abbrev pub chosen : Scalar → Scalar → Option Scalar
chosen (Integer a) (Integer b) = Some (Integer (common a b))
chosen (Integer a) (Offset b v) = None
chosen (Offset a u) (Integer b) = None
chosen (Offset a u) (Offset b v) = if same_type a b && nat_eq u v then Some (Offset a u) else None

abbrev pub choice : Operand → Operand → Option Scalar
choice x y = and_then (number_in x) (λ a. and_then (number_in y) (chosen a))
