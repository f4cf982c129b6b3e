-- The numbers of a note.
use Rattle.std.specs.Prelude.{ℕ, ◌+◌, ◌*◌, ◌^◌, Bool, true, false, not, ◌&&◌, ◌||◌, if◌then◌else◌, ◌==◌, nat_lt, nat_le, List, [], ◌∷◌, drop, slice_index, Option, Some, None, ℤ, pos, neg_ℤ}
use Rattle.std.specs.List.{list_all}
use Rattle.value_notes.specs.Blanks.{digit_of, is_digit}

-- the base that the prefix of a numeral names, `0x`, `0o` or `0b` in either case, or 10
abbrev pub base_of : List ℕ → ℕ
base_of numeral =
    if not (slice_index numeral 0 == 48) then 10
    else if slice_index numeral 1 == 120 || slice_index numeral 1 == 88 then 16
    else if slice_index numeral 1 == 111 || slice_index numeral 1 == 79 then 8
    else if slice_index numeral 1 == 98 || slice_index numeral 1 == 66 then 2
    else 10

-- the length of that prefix
abbrev pub start_of : ℕ → ℕ
start_of base = if base == 10 then 0 else 2

-- a value that fits 64 bits
abbrev pub in_64 : ℕ → Option ℕ
in_64 value = if nat_lt value (2 ^ 64) then Some value else None

abbrev pub next_value : ℕ → ℕ → ℕ → ℕ
next_value base before d = if d == 95 then before else before * base + digit_of d

-- the value of digits after others of the value `before`; a `_` has no value
unfoldable pub value_after : ℕ → ℕ → List ℕ → ℕ
value_after base before [] = before
value_after base before (d ∷ digits) = value_after base (next_value base before d) digits

-- the value of digits of a base, the first of which isn't `_`
abbrev pub digits_value : ℕ → List ℕ → Option ℕ
digits_value base digits =
    if nat_lt (digit_of (slice_index digits 0)) base && list_all (is_digit base) digits
    then in_64 (value_after base 0 digits)
    else None

-- the value of a numeral, if the bytes are one, below 2^64
abbrev pub numeral_value : List ℕ → Option ℕ
numeral_value numeral = digits_value (base_of numeral) (drop (start_of (base_of numeral)) numeral)

-- a number with its sign, from -2^63 on
abbrev pub signed : (negative : Bool) → (magnitude : ℕ) → Option ℤ
signed false magnitude = Some (pos magnitude)
signed true magnitude = if nat_le magnitude (2 ^ 63) then Some (neg_ℤ (pos magnitude)) else None
