-- Texts that need no quotes, and those whose quotes depend on their bytes.
use Rattle.std.proofs.Common.{◌≡◌, ℕ, zero, suc, ℤ, pos, negsuc, ◌+◌, ◌-◌, ◌/◌, ◌%◌, Bool, true, false, List, [], ◌∷◌, ◌++◌, Some, inl, inr, refl, sym, ◌∙◌, ap, arith}
use Rattle.std.specs.Prelude.{◌||◌, ◌==◌, nat_lt, decimal}
use Rattle.std.specs.Fmt.{digits, digits_onto, digit_glyph, signed_decimal}
use Rattle.std.proofs.lemmas.Bool.{cases_Bool, false≢true}
use Rattle.pickle_meaning.specs.Values.{Value, label_of}
use Rattle.value_store.specs.declared.value.Kind.{Kind}
use Rattle.value_store.specs.declared.value.Kind.TheVariants.{Integer, Offset, Text, Array, Struct, Union}
use Rattle.value_store.specs.Labels.{kind_of, number_of, bytes_of}
use Rattle.text_output.specs.HexDigits.{hex_digit}
use Rattle.text_output.specs.declared.style.Numbers.{Numbers}
use Rattle.text_output.specs.declared.style.Numbers.TheVariants.{Decimal, Hexadecimal, Digits}
use Rattle.text_output.specs.declared.style.Style.{Style}
use Rattle.value_text.specs.StyledNumbers.{signed_hex, hexadecimal, hex_digits}
use Rattle.csv_text.specs.Characters.{is_plain}
use Rattle.csv_text.specs.Escapes.{escape_text, whole_count, spelled_byte, escaped_from, escaped}
use Rattle.csv_text.specs.Quotes.{is_special, has_special, needs_quotes, doubled, in_quotes, cell_text}
use Rattle.csv_text.specs.Records.{IsCell, plain, quoted}
use Rattle.csv_text.specs.Cells.{number_text, text_cell, kind_cell}
use Rattle.csv_text.specs.CellLaws.{kind_content, CellsHoldValues}
use Rattle.csv_text.proofs.Reading.{neither}

special_append : (xs ys : List ℕ) → has_special (xs ++ ys) ≡ has_special xs || has_special ys
special_append [] ys = refl
special_append (x ∷ xs) ys = ap (λ b. is_special x || b) (special_append xs ys)
    ∙ sym (or_assoc (is_special x) (has_special xs) (has_special ys))
  where
    or_assoc : (a b c : Bool) → (a || b) || c ≡ a || (b || c)
    or_assoc true b c = refl
    or_assoc false b c = refl

-- a text without special bytes is itself between quotes
pub doubled_plain : (text : List ℕ) → has_special text ≡ false → doubled text ≡ text
doubled_plain [] e = refl
doubled_plain (byte ∷ text) e =
    let all = neither (is_special byte) (has_special text) e in
    let comma = neither (byte == 44) ((byte == 34) || ((byte == 13) || (byte == 10))) all.0 in
    let quote = neither (byte == 34) ((byte == 13) || (byte == 10)) comma.1 in
    rw quote.0 (ap (λ s. byte ∷ s) (doubled_plain text all.1))

-- ---- escapes and quotes

low_digit : (n : ℕ) → nat_lt n 10 ≡ true → is_special (48 + n) ≡ false
low_digit n hit = grind arith

high_digit : (n : ℕ) → is_special (87 + n) ≡ false
high_digit n = grind arith

digit_special : (n : ℕ) → is_special (hex_digit n) ≡ false
digit_special n = elim (cases_Bool (nat_lt n 10)) [
  | inl hit ↦ rw hit (low_digit n hit)
  | inr miss ↦ rw miss (high_digit n)
]

pub escape_special : (byte : ℕ) → has_special (escape_text byte) ≡ false
escape_special byte = elim (cases_Bool (byte == 92)) [
  | inl hit ↦ rw hit refl
  | inr miss ↦ rw (miss, digit_special (byte / 16), digit_special (byte % 16)) refl
]

special_plain : (byte : ℕ) → is_plain byte ≡ false → is_special byte ≡ false
special_plain byte e = grind (arith, e)

-- a byte that isn't printed as it is isn't special
escaped_byte : (left : ℕ) (byte : ℕ) (bytes : List ℕ) → whole_count left (byte ∷ bytes) ≡ 0 → is_special byte ≡ false
escaped_byte (suc left) byte bytes e = absurd (omega (arith, e))
escaped_byte zero byte bytes e = elim (cases_Bool (is_plain byte)) [
  | inl hit ↦ absurd (omega (arith, rw hit at e))
  | inr miss ↦ special_plain byte miss
]

spelled_special : (n byte : ℕ) → (n ≡ 0 → is_special byte ≡ false) → has_special (spelled_byte n byte) ≡ is_special byte
spelled_special zero byte h = escape_special byte ∙ sym (h refl)
spelled_special (suc n) byte h = or_none (is_special byte)
  where
    or_none : (b : Bool) → b || false ≡ b
    or_none true = refl
    or_none false = refl

escaped_special : (left : ℕ) (bytes : List ℕ) → has_special (escaped_from left bytes) ≡ has_special bytes
escaped_special left [] = refl
escaped_special left (byte ∷ bytes) =
    let n = whole_count left (byte ∷ bytes) in
    special_append (spelled_byte n byte) (escaped_from (n - 1) bytes)
    ∙ ap (λ b. b || has_special (escaped_from (n - 1) bytes))
    (spelled_special n byte (λ e. escaped_byte left byte bytes e))
    ∙ ap (λ b. is_special byte || b) (escaped_special (n - 1) bytes)

some_spelled : (n byte : ℕ) (rest : List ℕ) →
    needs_quotes (spelled_byte n byte ++ rest) ≡ has_special (spelled_byte n byte ++ rest)
some_spelled zero byte rest = elim (cases_Bool (byte == 92)) [
  | inl hit ↦ rw hit refl
  | inr miss ↦ rw miss refl
]
some_spelled (suc n) byte rest = refl

-- the escapes of a text don't change whether it needs quotes
pub escaped_needs : (bytes : List ℕ) → needs_quotes (escaped bytes) ≡ needs_quotes bytes
escaped_needs [] = refl
escaped_needs (byte ∷ bytes) =
    let n = whole_count 0 (byte ∷ bytes) in
    some_spelled n byte (escaped_from (n - 1) bytes) ∙ escaped_special 0 (byte ∷ bytes)

pub needs_special : (text : List ℕ) → needs_quotes text ≡ false → has_special text ≡ false
needs_special [] e = absurd (false≢true (sym e))
needs_special (byte ∷ text) e = e

-- a text with quotes and one without
pub cell_quoted : (bytes : List ℕ) → needs_quotes bytes ≡ true → in_quotes (escaped bytes) ≡ text_cell bytes
cell_quoted bytes e = rw (escaped_needs bytes, e) refl

pub cell_plain : (bytes : List ℕ) → needs_quotes bytes ≡ false → doubled (escaped bytes) ≡ text_cell bytes
cell_plain bytes e =
    let plain : needs_quotes (escaped bytes) ≡ false = escaped_needs bytes ∙ e in
    doubled_plain (escaped bytes) (needs_special (escaped bytes) plain)
    ∙ sym (rw plain refl)

-- ---- numbers

glyph_special : (n : ℕ) → is_special (digit_glyph false n) ≡ false
glyph_special n = elim (cases_Bool (nat_lt n 10)) [
  | inl hit ↦ rw hit (low_digit n hit)
  | inr miss ↦ rw miss (high_digit n)
]

digits_onto_plain : (k n : ℕ) (more : List ℕ) → needs_quotes more ≡ false →
    needs_quotes (digits_onto k 10 false n more) ≡ false
digits_onto_plain zero n more e = e
digits_onto_plain (suc k) n more e =
    let one : needs_quotes (digit_glyph false (n % 10) ∷ more) ≡ false =
    rw (glyph_special (n % 10)) (needs_special more e) in
    elim (cases_Bool (n / 10 == 0)) [
      | inl hit ↦ rw hit one
      | inr miss ↦ rw miss (digits_onto_plain k (n / 10) (digit_glyph false (n % 10) ∷ more) one)
    ]

digits_plain : (n : ℕ) → needs_quotes (decimal n) ≡ false
unfolding digits
digits_plain n =
    let one : needs_quotes (digit_glyph false (n % 10) ∷ []) ≡ false = rw (glyph_special (n % 10)) refl in
    elim (cases_Bool (n / 10 == 0)) [
      | inl hit ↦ rw hit one
      | inr miss ↦ rw miss (digits_onto_plain 63 (n / 10) (digit_glyph false (n % 10) ∷ []) one)
    ]

pub decimal_plain : (z : ℤ) → needs_quotes (signed_decimal z) ≡ false
decimal_plain (pos n) = digits_plain n
decimal_plain (negsuc n) = needs_special (decimal (suc n)) (digits_plain (suc n))

hex_special : (most n : ℕ) → has_special (hex_digits most n) ≡ false
hex_special zero n = refl
hex_special (suc most) n = elim (cases_Bool (nat_lt n 16)) [
  | inl hit ↦ rw (hit, digit_special (n % 16)) refl
  | inr miss ↦ rw miss (special_append (hex_digits most (n / 16)) (hex_digit (n % 16) ∷ [])
      ∙ ap (λ b. b || has_special (hex_digit (n % 16) ∷ [])) (hex_special most (n / 16))
      ∙ rw (digit_special (n % 16)) refl)
]

pub hex_plain : (z : ℤ) → needs_quotes (signed_hex z) ≡ false
unfolding hexadecimal
hex_plain (pos n) = hex_special 32 n
hex_plain (negsuc n) = hex_special 32 (suc n)

number_plain : (numbers : Numbers) (z : ℤ) → needs_quotes (number_text numbers z) ≡ false
number_plain Decimal z = decimal_plain z
number_plain Hexadecimal z = hex_plain z
number_plain Digits z = decimal_plain z

-- ---- what cells hold

text_holds : (text : List ℕ) → IsCell (cell_text text) (Some text)
text_holds text = elim (cases_Bool (needs_quotes text)) [
  | inl hit ↦ rw hit quoted
  | inr miss ↦ rw miss (plain miss)
]

kind_holds : (style : Style) (kind : Kind) (value : Value) →
    IsCell (kind_cell style kind value) (Some (kind_content style kind value))
kind_holds style Integer value = plain (number_plain style.numbers (number_of (label_of value)))
kind_holds style Offset value = plain (number_plain style.numbers (number_of (label_of value)))
kind_holds style Text value = text_holds (escaped (bytes_of (label_of value)))
kind_holds style Array value = quoted
kind_holds style Struct value = quoted
kind_holds style Union value = quoted

pub cells_hold : CellsHoldValues
cells_hold style value = kind_holds style (kind_of (label_of value)) value
