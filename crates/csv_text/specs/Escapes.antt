-- Texts with escapes for bytes that aren't printed as they are, and how such a text reads back.
use Rattle.std.specs.Prelude.{ℕ, zero, suc, ◌+◌, ◌-◌, ◌*◌, ◌/◌, ◌%◌, List, [], ◌∷◌, ◌++◌, ◌==◌, nat_lt, if◌then◌else◌, codes}
use Rattle.text_output.specs.HexDigits.{hex_digit}
use Rattle.csv_text.specs.Characters.{character_size}

-- a byte that isn't printed as it is: a backslash twice, any other by two digits
abbrev pub escape_text : ℕ → List ℕ
escape_text byte =
    if byte == 92 then codes "\\\\" else codes "\\x" ++ hex_digit (byte / 16) ∷ hex_digit (byte % 16) ∷ []

-- a byte that is the first of so many that are printed as they are, of a text at whose start so many bytes belong to a
-- character that began before
abbrev pub whole_count : (left : ℕ) → List ℕ → ℕ
whole_count zero bytes = character_size bytes
whole_count (suc left) bytes = suc left

abbrev pub spelled_byte : (whole : ℕ) → ℕ → List ℕ
spelled_byte zero byte = escape_text byte
spelled_byte (suc whole) byte = byte ∷ []

abbrev pub escaped_from : (left : ℕ) → List ℕ → List ℕ
escaped_from left [] = []
escaped_from left (byte ∷ bytes) =
    spelled_byte (whole_count left (byte ∷ bytes)) byte ++ escaped_from (whole_count left (byte ∷ bytes) - 1) bytes

-- a text with its escapes
abbrev pub escaped : List ℕ → List ℕ
escaped bytes = escaped_from 0 bytes

-- ---- reading back

abbrev pub hex_value : ℕ → ℕ
hex_value digit = if nat_lt digit 58 then digit - 48 else digit - 87

abbrev mutual
  -- the bytes that a text with escapes stands for: any byte but a backslash is itself
  pub unescaped : List ℕ → List ℕ
  unescaped [] = []
  unescaped (byte ∷ rest) = if byte == 92 then after_backslash rest else byte ∷ unescaped rest

  -- a backslash, or what is before two digits
  pub after_backslash : List ℕ → List ℕ
  after_backslash [] = []
  after_backslash (byte ∷ rest) = if byte == 92 then 92 ∷ unescaped rest else first_digit rest

  pub first_digit : List ℕ → List ℕ
  first_digit [] = []
  first_digit (digit ∷ rest) = second_digit (hex_value digit) rest

  pub second_digit : (high : ℕ) → List ℕ → List ℕ
  second_digit high [] = []
  second_digit high (digit ∷ rest) = (high * 16 + hex_value digit) ∷ unescaped rest
