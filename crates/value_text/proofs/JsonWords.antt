-- Numbers and strings read back as the grammar of JSON has them.
use Rattle.std.proofs.Common.{◌≡◌, ◌≢◌, ℕ, zero, suc, ℤ, pos, negsuc, ◌+◌, ◌*◌, ◌/◌, ◌%◌, ◌^◌, ◌<◌, ◌≤◌, inl, inr, true, List, [], ◌∷◌, ◌++◌, decimal, sym, ◌∙◌, ap, subst, arith}
use Rattle.std.specs.Prelude.{unsigned_abs, ◌==◌, nat_lt}
use Rattle.std.specs.Fmt.{signed_decimal}
use Rattle.std.specs.Str.Parse.{digits_value}
use Rattle.std.proofs.lemmas.Bool.{cases_Bool}
use Rattle.std.proofs.lemmas.Fmt.{decimal_by_steps, decimal_is_IsNumeral}
use Rattle.std.proofs.lemmas.List.{append-nil}
use Rattle.text_output.specs.HexDigits.{hex_digit}
use Rattle.value_text.specs.ValueText.{is_plain, spelled}
use Rattle.value_text.specs.JsonText.{json_escape, json_string, place_key}
use Rattle.value_text.specs.Json as json
use Rattle.value_text.specs.JsonValue.{whole_number}
use Rattle.value_text.specs.SmallParts.{AreBytes}

hex_is : (n : ℕ) → n < 16 → json.IsHexDigit (hex_digit n) n
hex_is n small = elim (cases_Bool (nat_lt n 10)) [
  | inl hit ↦ rw hit (json.decimal_digit {value = n} (grind (arith, hit)))
  | inr miss ↦ rw miss (json.lower_digit {value = n} (grind (arith, miss)) small)
]

plain_is : (byte : ℕ) → is_plain byte ≡ true → (32 ≤ byte) × (byte < 128) × (byte ≢ 34) × (byte ≢ 92)
plain_is byte h = grind (arith, h)

is_that : (byte n : ℕ) → (byte == n) ≡ true → byte ≡ n
is_that byte n h = grind (arith, h)

-- an escape before other characters
escape_is : (byte : ℕ) {rest characters : List ℕ} → byte < 256 → json.ReadsCharacters rest characters →
    json.ReadsCharacters (json_escape byte ++ rest) (byte ∷ characters)
escape_is byte {rest} {characters} small h = elim (cases_Bool (byte == 92)) [
  | inl a ↦ rw a (short byte 92 92 (is_that byte 92 a) json.backslash)
  | inr a ↦ rw a (elim (cases_Bool (byte == 34)) [
    | inl b ↦ rw b (short byte 34 34 (is_that byte 34 b) json.quote)
    | inr b ↦ rw b (elim (cases_Bool (byte == 9)) [
      | inl c ↦ rw c (short byte 116 9 (is_that byte 9 c) json.letter_t)
      | inr c ↦ rw c (elim (cases_Bool (byte == 10)) [
        | inl d ↦ rw d (short byte 110 10 (is_that byte 10 d) json.letter_n)
        | inr d ↦ rw d (subst (λ n. json.ReadsCharacters (92 ∷ 117 ∷ 48 ∷ 48 ∷ hex_digit (byte / 16 % 16)
            ∷ hex_digit (byte % 16) ∷ rest) (n ∷ characters)) (together byte small)
            (json.long_escape zero_is zero_is (hex_is (byte / 16 % 16) (omega arith))
            (hex_is (byte % 16) (omega arith)) h))
      ])
    ])
  ])
]
  where
    zero_is : json.IsHexDigit 48 0
    zero_is = json.decimal_digit {value = 0} (omega arith)

    together : (n : ℕ) → n < 256 → ((0 * 16 + 0) * 16 + n / 16 % 16) * 16 + n % 16 ≡ n
    together n small = omega (arith, small)

    short : (byte letter character : ℕ) → byte ≡ character → json.IsShort letter character →
        json.ReadsCharacters (92 ∷ letter ∷ rest) (byte ∷ characters)
    short byte letter character is k =
        subst (λ n. json.ReadsCharacters (92 ∷ letter ∷ rest) (n ∷ characters)) (sym is) (json.short_escape k h)

characters_are : (bytes : List ℕ) → AreBytes bytes → json.ReadsCharacters (spelled json_escape bytes) bytes
characters_are [] small = json.no_character
characters_are (byte ∷ bytes) small = elim (cases_Bool (is_plain byte)) [
  | inl hit ↦ rw hit (let p = plain_is byte hit in json.plain_character p.0 p.1 p.2 p.3 (characters_are bytes small.1))
  | inr miss ↦ rw miss (escape_is byte small.0 (characters_are bytes small.1))
]

pub string_is : (bytes : List ℕ) → AreBytes bytes → json.ReadsString (json_string bytes) bytes
unfolding json_string
string_is bytes small = json.string (characters_are bytes small)

-- digits that don't begin with 0
data IsLeading : List ℕ → Type 0 where
  leading : {digit : ℕ} {digits : List ℕ} → 49 ≤ digit → digit ≤ 57 → json.IsDigits digits → IsLeading (digit ∷ digits)

more_digits : {digits : List ℕ} {digit : ℕ} → json.IsDigits digits → json.IsDigit digit →
    json.IsDigits (digits ++ digit ∷ [])
more_digits json.no_digit h = json.one_digit h json.no_digit
more_digits (json.one_digit a rest) h = json.one_digit a (more_digits rest h)

more_leading : {digits : List ℕ} {digit : ℕ} → IsLeading digits → json.IsDigit digit → IsLeading (digits ++ digit ∷ [])
more_leading (leading low high rest) h = leading low high (more_digits rest h)

whole_of : {digits : List ℕ} → IsLeading digits → json.IsWhole digits
whole_of (leading low high rest) = json.leading low high rest

abbrev WholeOf : ℕ → List ℕ → Type 0
WholeOf n digits = (0 < n → IsLeading digits) × json.IsWhole digits

pub whole_is : (n : ℕ) → n < 2 ^ 64 → json.IsWhole (decimal n)
whole_is n small = (decimal_by_steps WholeOf first more n small).1
  where
    first : (m : ℕ) → m < 10 → WholeOf m ((48 + m) ∷ [])
    first zero l = (λ some. absurd (omega (arith, some)), json.only_zero)
    first (suc m) l =
        let one : IsLeading ((48 + suc m) ∷ []) = leading (omega arith) (omega (arith, l)) json.no_digit in
        (λ some. one, whole_of one)

    more : (m : ℕ) (ds : List ℕ) → 10 ≤ m → WholeOf (m / 10) ds → WholeOf m (ds ++ ((48 + m % 10) ∷ []))
    more m ds l h =
        let all : IsLeading (ds ++ ((48 + m % 10) ∷ [])) =
        more_leading (h.0 (omega (arith, l))) (omega arith, omega arith) in
        (λ some. all, whole_of all)

digits_are : (n : ℕ) → n < 2 ^ 64 → digits_value 10 (decimal n ++ []) ≡ n
digits_are n small = ap (digits_value 10) (append-nil (decimal n)) ∙ (decimal_is_IsNumeral n small).1

pub natural_is : (n : ℕ) → n < 2 ^ 64 → json.ReadsNumber (decimal n) (whole_number (pos n))
natural_is n small =
    subst (λ s. json.ReadsNumber s (whole_number (pos n))) (append-nil (decimal n))
    (subst (λ k. json.ReadsNumber (decimal n ++ []) (whole_number (pos k))) (digits_are n small)
    (json.number json.no_minus (whole_is n small) json.no_fraction json.no_exponent))

pub number_is : (z : ℤ) → unsigned_abs z < 2 ^ 64 → json.ReadsNumber (signed_decimal z) (whole_number z)
number_is (pos n) small = natural_is n small
number_is (negsuc n) small =
    subst (λ s. json.ReadsNumber s (whole_number (negsuc n))) (ap (λ s. 45 ∷ s) (append-nil (decimal (suc n))))
    (subst (λ k. json.ReadsNumber (45 ∷ (decimal (suc n) ++ [])) (whole_number (json.signed true k)))
    (digits_are (suc n) small)
    (json.number json.minus (whole_is (suc n) small) json.no_fraction json.no_exponent))

digit_characters : {digits : List ℕ} → json.IsDigits digits → json.ReadsCharacters digits digits
digit_characters json.no_digit = json.no_character
digit_characters (json.one_digit h rest) = json.plain_character (omega (arith, h.0)) (omega (arith, h.1))
    (λ e. omega (arith, e, h.0)) (λ e. omega (arith, e, h.1)) (digit_characters rest)

whole_characters : {digits : List ℕ} → json.IsWhole digits → json.ReadsCharacters digits digits
whole_characters json.only_zero = digit_characters (json.one_digit (omega arith, omega arith) json.no_digit)
whole_characters (json.leading low high rest) =
    digit_characters (json.one_digit (omega (arith, low), omega (arith, high)) rest)

pub place_is : (place : ℕ) → place < 2 ^ 64 → json.ReadsString (place_key place) (decimal place)
place_is place small = json.string (whole_characters (whole_is place small))
