-- Numbers.
use Rattle.std.specs.Prelude.{ℕ, ◌+◌, ◌*◌, ◌-◌, ◌^◌, Bool, true, false, not, ◌&&◌, ◌||◌, if◌then◌else◌, ◌==◌, nat_lt, List, [], ◌∷◌, drop, slice_index, Option, Some, None, Result, Ok, Err}
use Rattle.std.specs.List.{prefix_len, take_while}
use Rattle.pickle_syntax.specs.Bytes.{digit_of, is_in, Fault}
use Rattle.pickle_syntax.specs.declared.lexer.bytes.Class.TheVariants as class
use Rattle.pickle_syntax.specs.declared.lexer.fault.LexFaultKind.TheVariants.{BadNumber}
use Rattle.pickle_syntax.specs.declared.lexer.numbers.Suffix.{Suffix}
use Rattle.pickle_syntax.specs.declared.lexer.numbers.Found.{Found}
use Rattle.pickle_tree.specs.declared.tree.Number.{Number}

-- the base that a prefix before a digit names, or 10
abbrev pub base_of : List ℕ → ℕ
base_of bytes =
    if not (slice_index bytes 0 == 48) then 10
    else if (slice_index bytes 1 == 120 || slice_index bytes 1 == 88) && nat_lt (digit_of (slice_index bytes 2)) 16
    then 16
    else if (slice_index bytes 1 == 111 || slice_index bytes 1 == 79) && nat_lt (digit_of (slice_index bytes 2)) 8
    then 8
    else if (slice_index bytes 1 == 98 || slice_index bytes 1 == 66) && nat_lt (digit_of (slice_index bytes 2)) 2 then 2
    else 10

abbrev pub next_value : ℕ → ℕ → ℕ → ℕ
next_value base before d = if d == 95 then before else before * base + digit_of d

-- a value that fits 64 bits
abbrev pub in_64 : ℕ → Option ℕ
in_64 value = if nat_lt value (2 ^ 64) then Some value else None

-- the value of digits after others of the value `before`; a `_` has no value
unfoldable pub value_after : ℕ → ℕ → List ℕ → ℕ
value_after base before [] = before
value_after base before (d ∷ digits) = value_after base (next_value base before d) digits

-- the width that a letter names, or 0
abbrev pub width_of : ℕ → ℕ
width_of c =
    if c == 66 || c == 98 then 8
    else if c == 72 || c == 104 then 16
    else if c == 76 || c == 108 then 64
    else if c == 78 || c == 110 then 4
    else 0

abbrev pub is_sign : ℕ → Bool
is_sign c = c == 85 || c == 117

-- a sign letter, a width letter, or one of each in either order: whether the number is signed, the width or 0, the
-- length
unfoldable pub suffix_of : ℕ → ℕ → Suffix
suffix_of c d =
    if is_sign c then record { signed = false; width = width_of d; len = if width_of d == 0 then 1 else 2 }
    else if width_of c == 0 then record { signed = true; width = 0; len = 0 }
    else if is_sign d then record { signed = false; width = width_of c; len = 2 }
    else record { signed = true; width = width_of c; len = 1 }

-- the longest suffix at the front
abbrev pub suffix_at : List ℕ → Suffix
suffix_at after = suffix_of (slice_index after 0) (slice_index after 1)

-- whether the type holds the value
abbrev pub has_value : Bool → ℕ → ℕ → Bool
has_value signed width value = nat_lt value (2 ^ (if signed then width - 1 else width))

abbrev pub typed : ℕ → Suffix → ℕ
typed value s = if not (s.width == 0) then s.width else if has_value s.signed 32 value then 32 else 64

-- a number and its length
abbrev pub Read : Type 0
Read = Number × ℕ

abbrev pub number_of : Found → Read
number_of f = (f.number, f.len)

abbrev pub checked : ℕ → ℕ → Suffix → ℕ → ℕ → Result Read Fault
checked at value s end next =
    if is_in class.Word next || not (has_value s.signed (typed value s) value)
    then Err (BadNumber, at)
    else Ok (record { value = value; width = typed value s; signed = s.signed }, end + s.len)

abbrev pub start_of : ℕ → ℕ
start_of base = if base == 10 then 0 else 2

-- the number after a prefix of this length, in digits of this base
abbrev pub digits_at : ℕ → ℕ → ℕ → List ℕ → Result Read Fault
digits_at at base start digits =
    let len = prefix_len (is_in (class.Digit base)) digits in
    let after = drop len digits in
    let s = suffix_at after in
    checked at (value_after base 0 (take_while (is_in (class.Digit base)) digits)) s
    (start + len) (slice_index after s.len)

-- The number at the front: its prefix, the longest run of its digits, the longest suffix, and then no byte of a word.
unfoldable pub number_at : ℕ → List ℕ → Result Read Fault
number_at at bytes = digits_at at (base_of bytes) (start_of (base_of bytes)) (drop (start_of (base_of bytes)) bytes)
