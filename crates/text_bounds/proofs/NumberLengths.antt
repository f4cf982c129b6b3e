-- A greater number has as many digits or more.
use Rattle.std.proofs.Common.{◌≡◌, ℕ, zero, suc, ◌+◌, ◌-◌, ◌/◌, ◌%◌, ◌^◌, ◌<◌, ◌≤◌, Bool, true, false, List, [], ◌∷◌, ◌++◌, Option, Some, None, length, ℤ, pos, negsuc, decimal, codes, inl, inr, refl, ap, arith, length-append}
use Rattle.std.specs.Prelude.{if◌then◌else◌, nat_le, nat_lt, nat_eq, ◌-ℤ◌}
use Rattle.std.specs.Fmt.{signed_decimal, digits, digits_onto, digit_glyph}
use Rattle.std.proofs.Math.Nat.{two-pow-succ}
use Rattle.std.proofs.lemmas.Bool.{cases_Bool, leb-true, leb-false, eqb-true, eqb-false, lt-ltb}
use Rattle.pickle_types.specs.declared.integer.IntegerType.{IntegerType}
use Rattle.pickle_meaning.specs.Arithmetic.{with_sign}
use Rattle.text_output.specs.declared.style.Numbers.{Numbers}
use Rattle.text_output.specs.declared.style.Numbers.TheVariants.{Decimal, Hexadecimal, Digits}
use Rattle.text_output.specs.HexDigits.{hex_digit}
use Rattle.poke_batch.specs.ValueText.{suffix_of, typed_text, cast_text, type_word, integer_text}
use Rattle.value_text.specs.StyledNumbers.{hex_digits, hexadecimal, signed_hex, hex_suffix, typed_hex, hex_integer, integer_in, unit_in, offset_in, quoted_hex, json_number, json_offset_in}
use Rattle.text_bounds.specs.TextRoom.{longest_number}

abbrev spelt : ℕ → ℕ → List ℕ → List ℕ
spelt k n text = digits_onto k 10 false n text

spelt_grows : (k n : ℕ) (text : List ℕ) → length text ≤ length (spelt k n text)
spelt_grows zero n text = omega arith
spelt_grows (suc k) n text = chosen (spelt_grows k (n / 10) (digit_glyph false (n % 10) ∷ text)) (nat_eq (n / 10) 0)
  where
    chosen : length (digit_glyph false (n % 10) ∷ text) ≤ length (spelt k (n / 10) (digit_glyph false (n % 10) ∷ text))
        → (b : Bool)
        → length text
        ≤ length (if b then digit_glyph false (n % 10) ∷ text else spelt k (n / 10) (digit_glyph false (n % 10) ∷ text))
    chosen more true = omega arith
    chosen more false = omega (arith, more)

spelt_longer : (k a b : ℕ) (x y : List ℕ) → a ≤ b → length x ≤ length y → length (spelt k a x) ≤ length (spelt k b y)
spelt_longer zero a b x y le h = h
spelt_longer (suc k) a b x y le h =
    chosen (spelt_longer k (a / 10) (b / 10) (digit_glyph false (a % 10) ∷ x) (digit_glyph false (b % 10) ∷ y)
    (omega arith) (omega (arith, h)))
    (nat_eq (a / 10) 0) refl (nat_eq (b / 10) 0) refl
  where
    chosen : length (spelt k (a / 10) (digit_glyph false (a % 10) ∷ x))
        ≤ length (spelt k (b / 10) (digit_glyph false (b % 10) ∷ y))
        → (c : Bool) → nat_eq (a / 10) 0 ≡ c → (d : Bool) → nat_eq (b / 10) 0 ≡ d
        → length (if c then digit_glyph false (a % 10) ∷ x else spelt k (a / 10) (digit_glyph false (a % 10) ∷ x))
        ≤ length (if d then digit_glyph false (b % 10) ∷ y else spelt k (b / 10) (digit_glyph false (b % 10) ∷ y))
    chosen more true e true f = omega (arith, h)
    chosen more true e false f = let g = spelt_grows k (b / 10) (digit_glyph false (b % 10) ∷ y) in omega arith
    chosen more false e true f =
        let g = eqb-true (b / 10) 0 f in let i = eqb-false (a / 10) 0 e in absurd (i (omega arith))
    chosen more false e false f = more

pub decimal_longer : (a b : ℕ) → a ≤ b → length (decimal a) ≤ length (decimal b)
unfolding digits
decimal_longer a b le = spelt_longer 64 a b [] [] le (omega arith)

pub hex_longer : (k a b : ℕ) → a ≤ b → length (hex_digits k a) ≤ length (hex_digits k b)
hex_longer zero a b le = omega arith
hex_longer (suc k) a b le = chosen (hex_longer k (a / 16) (b / 16) (omega arith)) (nat_lt a 16) refl (nat_lt b 16) refl
  where
    chosen : length (hex_digits k (a / 16)) ≤ length (hex_digits k (b / 16)) → (c : Bool) → nat_lt a 16 ≡ c
        → (d : Bool) → nat_lt b 16 ≡ d
        → length ((if c then [] else hex_digits k (a / 16)) ++ hex_digit (a % 16) ∷ [])
        ≤ length ((if d then [] else hex_digits k (b / 16)) ++ hex_digit (b % 16) ∷ [])
    chosen more true e true f = omega arith
    chosen more true e false f = omega (arith, length-append (hex_digits k (b / 16)) (hex_digit (b % 16) ∷ []))
    chosen more false e true f =
        let small : b < 16 = grind (arith, f) in let great : 16 ≤ a = grind (arith, e) in absurd (omega arith)
    chosen more false e false f = omega (
      arith,
      more,
      length-append (hex_digits k (a / 16)) (hex_digit (a % 16) ∷ []),
      length-append (hex_digits k (b / 16)) (hex_digit (b % 16) ∷ []),
    )

pub hex_last : (most n : ℕ) → 0 < most → n < 16 → length (hex_digits most n) ≡ 1
hex_last zero n some small = absurd (omega (arith, some))
hex_last (suc most) n some small = elim (cases_Bool (nat_lt n 16)) [
  | inl hit ↦ rw hit refl
  | inr miss ↦ (let great : 16 ≤ n = grind (arith, miss) in absurd (omega (arith, small, great)))
]

pub hex_more : (most n : ℕ) → 0 < most → 16 ≤ n →
    length (hex_digits most n) ≡ 1 + length (hex_digits (most - 1) (n / 16))
hex_more zero n some great = absurd (omega (arith, some))
hex_more (suc most) n some great = elim (cases_Bool (nat_lt n 16)) [
  | inl hit ↦ (let small : n < 16 = grind (arith, hit) in absurd (omega (arith, small, great)))
  | inr miss ↦ (let same : suc most - 1 ≡ most = omega arith in
      rw (miss, same) (omega (arith, length-append (hex_digits most (n / 16)) (hex_digit (n % 16) ∷ []))))
]

below_none : (n k : ℕ) → n < k → pos n -ℤ pos k ≡ negsuc (k - n - 1)
below_none n zero lt = absurd (omega arith)
below_none n (suc k) lt =
    let one : suc k - suc n ≡ suc k - n - 1 = omega arith in
    rw (lt-ltb n (suc k) lt) (ap negsuc one)

upper_half : (w n : ℕ) → 2 ^ (w - 1) ≤ n → n < 2 ^ w → suc (2 ^ w - n - 1) ≤ suc (2 ^ (w - 1) - 1)
upper_half zero n le lt = absurd (omega (arith, le, lt))
upper_half (suc w) n le lt =
    let two : 2 ^ suc w ≡ 2 ^ w + 2 ^ w = two-pow-succ w in
    let same : suc w - 1 ≡ w = omega arith in rw same (omega (arith, two, lt, rw same at le))

-- a minus and the digits of the magnitude, of which a greater number has as many or more
record IsSpelt (size : ℤ → ℕ) (digits : ℕ → ℕ) : Type 0 where
  longer : (a b : ℕ) → a ≤ b → digits a ≤ digits b
  whole : (n : ℕ) → size (pos n) ≡ digits n
  below : (n : ℕ) → size (negsuc n) ≡ 1 + digits (suc n)

spelt_longest : (size : ℤ → ℕ) (digits : ℕ → ℕ) → IsSpelt size digits → (type : IntegerType) (n : ℕ) →
    n < 2 ^ type.width → size (with_sign type n) ≤ size (longest_number type)
unfolding with_sign
spelt_longest size digits is type n lt = chosen type.signed (nat_le (2 ^ (type.width - 1)) n) refl
  where
    chosen : (b c : Bool) → nat_le (2 ^ (type.width - 1)) n ≡ c
        → size (if b then (if c then pos n -ℤ pos (2 ^ type.width) else pos n) else pos n)
        ≤ size (if b then negsuc (2 ^ (type.width - 1) - 1) else pos (2 ^ type.width - 1))
    chosen true true e =
        let most = upper_half type.width n (leb-true (2 ^ (type.width - 1)) n e) lt in
        let more = is.longer (suc (2 ^ type.width - n - 1)) (suc (2 ^ (type.width - 1) - 1)) most in
        rw (below_none n (2 ^ type.width) lt)
        (omega (arith, more, is.below (2 ^ type.width - n - 1), is.below (2 ^ (type.width - 1) - 1)))
    chosen true false e =
        let gt = leb-false (2 ^ (type.width - 1)) n e in
        let more = is.longer n (suc (2 ^ (type.width - 1) - 1)) (omega (arith, gt)) in
        omega (arith, more, is.whole n, is.below (2 ^ (type.width - 1) - 1))
    chosen false c e =
        let more = is.longer n (2 ^ type.width - 1) (omega (arith, lt)) in
        omega (arith, more, is.whole n, is.whole (2 ^ type.width - 1))

pub number_longest : (type : IntegerType) (n : ℕ) → n < 2 ^ type.width →
    length (signed_decimal (with_sign type n)) ≤ length (signed_decimal (longest_number type))
number_longest = spelt_longest (λ z. length (signed_decimal z)) (λ n. length (decimal n))
    (record { longer = decimal_longer; whole = λ n. refl; below = λ n. omega arith })

hex_longest : (type : IntegerType) (n : ℕ) → n < 2 ^ type.width →
    length (signed_hex (with_sign type n)) ≤ length (signed_hex (longest_number type))
unfolding hexadecimal
hex_longest = spelt_longest (λ z. length (signed_hex z)) (λ n. 2 + length (hexadecimal n))
    (record { longer = longer; whole = λ n. omega arith; below = λ n. omega arith })
  where
    longer : (a b : ℕ) → a ≤ b → 2 + length (hexadecimal a) ≤ 2 + length (hexadecimal b)
    longer a b le = omega (arith, hex_longer 32 a b le)

typed_longest : (o : Option (List ℕ)) (type : IntegerType) (x y : ℤ) →
    length (signed_decimal x) ≤ length (signed_decimal y) → length (typed_text o type x) ≤ length (typed_text o type y)
typed_longest (Some suffix) type x y h =
    omega (arith, h, length-append (signed_decimal x) suffix, length-append (signed_decimal y) suffix)
typed_longest None type x y h =
    omega (arith, h, cast_length x, cast_length y)
  where
    cast_length : (z : ℤ) → length (cast_text type z)
        ≡ length (type_word type.signed) + (length (decimal type.width) + (3 + length (signed_decimal z)))
    cast_length z = omega (
      arith,
      length-append (type_word type.signed) (decimal type.width ++ (codes ">) " ++ signed_decimal z)),
      length-append (decimal type.width) (codes ">) " ++ signed_decimal z),
    )

-- hexadecimal digits for decimal ones
pub hex_typed : (o : Option (List ℕ)) (type : IntegerType) (z : ℤ) →
    length (typed_hex o type z) + length (signed_decimal z) ≡ length (typed_text o type z) + length (signed_hex z)
hex_typed (Some suffix) type z =
    omega (arith, length-append (signed_hex z) suffix, length-append (signed_decimal z) suffix)
hex_typed None type z =
    omega (
      arith,
      length-append (type_word type.signed) (decimal type.width ++ (codes ">) " ++ signed_hex z)),
      length-append (decimal type.width) (codes ">) " ++ signed_hex z),
      length-append (type_word type.signed) (decimal type.width ++ (codes ">) " ++ signed_decimal z)),
      length-append (decimal type.width) (codes ">) " ++ signed_decimal z),
    )

typed_hex_longest : (o : Option (List ℕ)) (type : IntegerType) (x y : ℤ) →
    length (signed_hex x) ≤ length (signed_hex y) → length (typed_hex o type x) ≤ length (typed_hex o type y)
typed_hex_longest (Some suffix) type x y h =
    omega (arith, h, length-append (signed_hex x) suffix, length-append (signed_hex y) suffix)
typed_hex_longest None type x y h =
    omega (
      arith,
      h,
      length-append (type_word type.signed) (decimal type.width ++ (codes ">) " ++ signed_hex x)),
      length-append (decimal type.width) (codes ">) " ++ signed_hex x),
      length-append (type_word type.signed) (decimal type.width ++ (codes ">) " ++ signed_hex y)),
      length-append (decimal type.width) (codes ">) " ++ signed_hex y),
    )

pub integer_longest : (numbers : Numbers) (type : IntegerType) (n : ℕ) → n < 2 ^ type.width →
    length (integer_in numbers type (with_sign type n)) ≤ length (integer_in numbers type (longest_number type))
unfolding integer_text hex_integer
integer_longest Decimal type n lt =
    typed_longest (suffix_of type) type (with_sign type n) (longest_number type) (number_longest type n lt)
integer_longest Hexadecimal type n lt =
    typed_hex_longest (hex_suffix type) type (with_sign type n) (longest_number type) (hex_longest type n lt)
integer_longest Digits type n lt = number_longest type n lt

pub quoted_length : (z : ℤ) → length (quoted_hex z) ≡ 2 + length (signed_hex z)
unfolding quoted_hex
quoted_length z = omega (arith, length-append (signed_hex z) (codes "\""))

pub json_longest : (numbers : Numbers) (type : IntegerType) (n : ℕ) → n < 2 ^ type.width →
    length (json_number numbers (with_sign type n)) ≤ length (json_number numbers (longest_number type))
json_longest Decimal type n lt = number_longest type n lt
json_longest Hexadecimal type n lt =
    omega (arith, hex_longest type n lt, quoted_length (with_sign type n), quoted_length (longest_number type))
json_longest Digits type n lt = number_longest type n lt

pub offset_length : (numbers : Numbers) (type : IntegerType) (unit : ℕ) (z : ℤ) →
    length (offset_in numbers type unit z) ≡ length (integer_in numbers type z) + length (unit_in numbers unit)
unfolding offset_in
offset_length numbers type unit z = omega (arith, length-append (integer_in numbers type z) (unit_in numbers unit))

pub offset_longest : (numbers : Numbers) (type : IntegerType) (unit n : ℕ) → n < 2 ^ type.width →
    length (offset_in numbers type unit (with_sign type n)) ≤ length (offset_in numbers type unit (longest_number type))
offset_longest numbers type unit n lt = omega (
  arith,
  integer_longest numbers type n lt,
  offset_length numbers type unit (with_sign type n),
  offset_length numbers type unit (longest_number type),
)

pub json_offset_length : (numbers : Numbers) (magnitude : ℤ) (unit : ℕ) →
    length (json_offset_in numbers magnitude unit) ≡ 22 + length (json_number numbers magnitude) + length (decimal unit)
unfolding json_offset_in
json_offset_length numbers magnitude unit =
    omega (
      arith,
      length-append (json_number numbers magnitude) (codes ",\"unit\":" ++ (decimal unit ++ codes "}")),
      length-append (decimal unit) (codes "}"),
    )

pub json_offset_longest : (numbers : Numbers) (type : IntegerType) (n unit : ℕ) → n < 2 ^ type.width →
    length (json_offset_in numbers (with_sign type n) unit) ≤ length (json_offset_in numbers (longest_number type) unit)
json_offset_longest numbers type n unit lt = omega (
  arith,
  json_longest numbers type n lt,
  json_offset_length numbers (with_sign type n) unit,
  json_offset_length numbers (longest_number type) unit,
)
