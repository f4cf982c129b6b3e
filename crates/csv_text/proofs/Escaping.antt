-- Escapes read back.
use Rattle.std.proofs.Common.{◌≡◌, ◌≢◌, ℕ, zero, suc, ◌+◌, ◌-◌, ◌*◌, ◌/◌, ◌%◌, ◌<◌, ◌≤◌, Bool, true, false, List, [], ◌∷◌, ◌++◌, get_or, inl, inr, refl, sym, ◌∙◌, ap, arith}
use Rattle.std.specs.Prelude.{◌&&◌, ◌==◌, nat_lt}
use Rattle.std.specs.Int.{is_in_range}
use Rattle.std.proofs.lemmas.Bool.{cases_Bool, false≢true}
use Rattle.text_output.specs.HexDigits.{hex_digit}
use Rattle.csv_text.specs.Characters.{is_plain, may_follow, is_later, long_size, character_size}
use Rattle.csv_text.specs.Escapes.{escape_text, whole_count, spelled_byte, escaped_from, hex_value, unescaped}
use Rattle.value_text.specs.SmallParts.{AreBytes}
use Rattle.csv_text.specs.TextLaws.{EscapesReadBack, EscapesDiffer}
use Rattle.csv_text.proofs.Reading.{is_that}

-- ---- sizes of characters

-- how long a character of more than one byte is, and why
pub data IsLong (a b c d : ℕ) : ℕ → Type 0 where
  no_long : IsLong a b c d 0
  long_two : may_follow a b ≡ true → is_in_range 0xC2 0xDF a ≡ true → IsLong a b c d 2
  long_three : may_follow a b ≡ true → is_in_range 0xE0 0xEF a ≡ true → is_later c ≡ true → IsLong a b c d 3
  long_four : may_follow a b ≡ true → is_in_range 0xF0 0xF4 a ≡ true → is_later c ≡ true → is_later d ≡ true →
      IsLong a b c d 4

pub both : (x y : Bool) → (x && y) ≡ true → (x ≡ true) × (y ≡ true)
both true y e = (refl, e)
both false y e = absurd (false≢true e)

pub long_is : (a b c d : ℕ) → IsLong a b c d (long_size a b c d)
long_is a b c d = elim (cases_Bool (may_follow a b)) [
  | inl follows ↦ rw follows (elim (cases_Bool (is_in_range 0xC2 0xDF a)) [
    | inl two ↦ rw two (long_two follows two)
    | inr no_two ↦ rw no_two (elim (cases_Bool (is_in_range 0xE0 0xEF a && is_later c)) [
      | inl three ↦ rw three (let t = both (is_in_range 0xE0 0xEF a) (is_later c) three in long_three follows t.0 t.1)
      | inr no_three ↦ rw no_three (elim (cases_Bool (is_in_range 0xF0 0xF4 a && (is_later c && is_later d))) [
        | inl four ↦ rw four (let t = both (is_in_range 0xF0 0xF4 a) (is_later c && is_later d) four in
            let u = both (is_later c) (is_later d) t.1 in long_four follows t.0 u.0 u.1)
        | inr none ↦ rw none no_long
      ])
    ])
  ])
  | inr miss ↦ rw miss no_long
]

pub range_is : (low high n : ℕ) → is_in_range low high n ≡ true → (low ≤ n) × (n ≤ high)
range_is low high n e = grind (arith, e)

pub second_is : (a b : ℕ) → may_follow a b ≡ true → (128 ≤ b) × (b ≤ 191)
second_is a b e = grind (arith, e)

plain_is : (byte : ℕ) → is_plain byte ≡ true → byte ≢ 92
plain_is byte e = grind (arith, e)

-- a byte of a character isn't a backslash
long_byte : (a b c d n i : ℕ) (bytes : List ℕ) → IsLong a b c d n → get_or bytes 0 0 ≡ a → get_or bytes 1 0 ≡ b
    → get_or bytes 2 0 ≡ c → get_or bytes 3 0 ≡ d → i < n → get_or bytes i 0 ≢ 92
long_byte a b c d n i bytes no_long ea eb ec ed lt = absurd (omega (arith, lt))
long_byte a b c d n zero bytes (long_two f two) ea eb ec ed lt =
    λ e. omega (arith, e, ea, (range_is 0xC2 0xDF a two).0)
long_byte a b c d n (suc zero) bytes (long_two f two) ea eb ec ed lt = λ e. omega (arith, e, eb, (second_is a b f).0)
long_byte a b c d n (suc (suc i)) bytes (long_two f two) ea eb ec ed lt = absurd (omega (arith, lt))
long_byte a b c d n zero bytes (long_three f three l) ea eb ec ed lt =
    λ e. omega (arith, e, ea, (range_is 0xE0 0xEF a three).0)
long_byte a b c d n (suc zero) bytes (long_three f three l) ea eb ec ed lt =
    λ e. omega (arith, e, eb, (second_is a b f).0)
long_byte a b c d n (suc (suc zero)) bytes (long_three f three l) ea eb ec ed lt =
    λ e. omega (arith, e, ec, (range_is 0x80 0xBF c l).0)
long_byte a b c d n (suc (suc (suc i))) bytes (long_three f three l) ea eb ec ed lt = absurd (omega (arith, lt))
long_byte a b c d n zero bytes (long_four f four l m) ea eb ec ed lt =
    λ e. omega (arith, e, ea, (range_is 0xF0 0xF4 a four).0)
long_byte a b c d n (suc zero) bytes (long_four f four l m) ea eb ec ed lt =
    λ e. omega (arith, e, eb, (second_is a b f).0)
long_byte a b c d n (suc (suc zero)) bytes (long_four f four l m) ea eb ec ed lt =
    λ e. omega (arith, e, ec, (range_is 0x80 0xBF c l).0)
long_byte a b c d n (suc (suc (suc zero))) bytes (long_four f four l m) ea eb ec ed lt =
    λ e. omega (arith, e, ed, (range_is 0x80 0xBF d m).0)
long_byte a b c d n (suc (suc (suc (suc i)))) bytes (long_four f four l m) ea eb ec ed lt = absurd (omega (arith, lt))

-- so many bytes at the start of a text aren't backslashes
abbrev pub AreWhole : ℕ → List ℕ → Type 0
AreWhole left bytes = (i : ℕ) → i < left → get_or bytes i 0 ≢ 92

size_whole : (bytes : List ℕ) → AreWhole (character_size bytes) bytes
size_whole bytes = elim (cases_Bool (is_plain (get_or bytes 0 0))) [
  | inl hit ↦ rw hit (one hit)
  | inr miss ↦ rw miss (λ i lt. long_byte (get_or bytes 0 0) (get_or bytes 1 0) (get_or bytes 2 0) (get_or bytes 3 0)
      (long_size (get_or bytes 0 0) (get_or bytes 1 0) (get_or bytes 2 0) (get_or bytes 3 0)) i bytes
      (long_is (get_or bytes 0 0) (get_or bytes 1 0) (get_or bytes 2 0) (get_or bytes 3 0)) refl refl refl refl lt)
]
  where
    one : is_plain (get_or bytes 0 0) ≡ true → (i : ℕ) → i < 1 → get_or bytes i 0 ≢ 92
    one hit zero lt = plain_is (get_or bytes 0 0) hit
    one hit (suc i) lt = absurd (omega (arith, lt))

whole_is : (left : ℕ) (bytes : List ℕ) → AreWhole left bytes → AreWhole (whole_count left bytes) bytes
whole_is zero bytes h = size_whole bytes
whole_is (suc left) bytes h = h

-- ---- escapes

digit_back : (n : ℕ) → n < 16 → hex_value (hex_digit n) ≡ n
digit_back n small = elim (cases_Bool (nat_lt n 10)) [
  | inl hit ↦ rw hit (let low : nat_lt (48 + n) 58 ≡ true = grind (arith, hit) in rw low (omega arith))
  | inr miss ↦ rw miss (let high : nat_lt (87 + n) 58 ≡ false = grind (arith, miss) in rw high (omega arith))
]

escape_back : (byte : ℕ) (rest : List ℕ) → byte < 256 →
    unescaped (escape_text byte ++ rest) ≡ byte ∷ unescaped rest
escape_back byte rest small = elim (cases_Bool (byte == 92)) [
  | inl hit ↦ rw hit (ap (λ b. b ∷ unescaped rest) (sym (is_that byte 92 hit)))
  | inr miss ↦ rw miss (ap (λ b. b ∷ unescaped rest)
      (ap (λ h. h * 16 + hex_value (hex_digit (byte % 16))) (digit_back (byte / 16) (omega (arith, small)))
      ∙ ap (λ l. byte / 16 * 16 + l) (digit_back (byte % 16) (omega arith)) ∙ omega arith))
]

plain_back : (byte : ℕ) (rest : List ℕ) → byte ≢ 92 → unescaped (byte ∷ rest) ≡ byte ∷ unescaped rest
plain_back byte rest other = let no : (byte == 92) ≡ false = grind (arith, other) in rw no refl

back_step : (byte : ℕ) (bytes : List ℕ) → byte < 256
    → ((left : ℕ) → AreWhole left bytes → unescaped (escaped_from left bytes) ≡ bytes)
    → (n : ℕ) → AreWhole n (byte ∷ bytes)
    → unescaped (spelled_byte n byte ++ escaped_from (n - 1) bytes) ≡ byte ∷ bytes
back_step byte bytes small more zero h = escape_back byte (escaped_from 0 bytes) small
    ∙ ap (λ s. byte ∷ s) (more 0 (λ i lt. absurd (omega (arith, lt))))
back_step byte bytes small more (suc n) h =
    let one : suc n - 1 ≡ n = omega arith in
    rw one (plain_back byte (escaped_from n bytes) (h 0 (omega arith))
    ∙ ap (λ s. byte ∷ s) (more n (λ i lt. h (suc i) (omega (arith, lt)))))

back_from : (left : ℕ) (bytes : List ℕ) → AreBytes bytes → AreWhole left bytes →
    unescaped (escaped_from left bytes) ≡ bytes
back_from left [] small whole = refl
back_from left (byte ∷ bytes) small whole =
    back_step byte bytes small.0 (λ n h. back_from n bytes small.1 h) (whole_count left (byte ∷ bytes))
    (whole_is left (byte ∷ bytes) whole)

pub escapes_back : EscapesReadBack
escapes_back bytes small = back_from 0 bytes small (λ i lt. absurd (omega (arith, lt)))

pub escapes_differ : EscapesDiffer
escapes_differ a b small_a small_b e =
    sym (escapes_back a small_a) ∙ ap unescaped e ∙ escapes_back b small_b
