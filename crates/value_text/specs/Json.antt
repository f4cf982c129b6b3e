-- The grammar of JSON texts (RFC 8259) over ASCII, and the value that each reads as. Other characters are in strings
-- alone, as escapes.
use Rattle.std.specs.Prelude.{◌≢◌, ◌≤◌, ◌<◌, ◌+◌, ◌*◌, ℕ, ℤ, pos, neg_ℤ, Bool, true, false, length, List, [], ◌∷◌, ◌++◌, codes}
use Rattle.std.specs.Str.Parse.{digits_value}
use Rattle.value_text.specs.JsonValue.{Json, JsonFalse, JsonTrue, JsonNull, JsonNumber, JsonString, JsonList, JsonObject, Elements, NoElements, ElementThen, Entries, NoEntries, EntryThen}

-- spaces, tabs, line feeds and carriage returns
pub data IsBlank : ℕ → Type 0 where
  space : IsBlank 32
  tab : IsBlank 9
  line_feed : IsBlank 10
  carriage_return : IsBlank 13

pub data IsBlanks : List ℕ → Type 0 where
  no_blank : IsBlanks []
  one_blank : {byte : ℕ} {blanks : List ℕ} → IsBlank byte → IsBlanks blanks → IsBlanks (byte ∷ blanks)

abbrev pub IsDigit : ℕ → Type 0
IsDigit byte = (48 ≤ byte) × (byte ≤ 57)

pub data IsDigits : List ℕ → Type 0 where
  no_digit : IsDigits []
  one_digit : {digit : ℕ} {digits : List ℕ} → IsDigit digit → IsDigits digits → IsDigits (digit ∷ digits)

-- 0, or digits that don't begin with 0
pub data IsWhole : List ℕ → Type 0 where
  only_zero : IsWhole (codes "0")
  leading : {digit : ℕ} {digits : List ℕ} → 49 ≤ digit → digit ≤ 57 → IsDigits digits → IsWhole (digit ∷ digits)

-- a minus or none, and whether there is one
pub data IsMinus : List ℕ → Bool → Type 0 where
  no_minus : IsMinus [] false
  minus : IsMinus (codes "-") true

-- a point and digits or nothing, and the digits
pub data IsFraction : List ℕ → List ℕ → Type 0 where
  no_fraction : IsFraction [] []
  fraction : {digit : ℕ} {digits : List ℕ} → IsDigit digit → IsDigits digits →
      IsFraction (codes "." ++ digit ∷ digits) (digit ∷ digits)

-- a sign or none, and whether it is a minus
pub data IsExponentSign : List ℕ → Bool → Type 0 where
  no_sign : IsExponentSign [] false
  minus_sign : IsExponentSign (codes "-") true
  plus_sign : IsExponentSign (codes "+") false

abbrev pub signed : (negative : Bool) → ℕ → ℤ
signed false number = pos number
signed true number = neg_ℤ (pos number)

pub data IsPowerLetter : ℕ → Type 0 where
  small_letter : IsPowerLetter 101
  capital_letter : IsPowerLetter 69

-- `e` or `E`, a sign or none, and digits; without them the power is 0
pub data IsExponent : List ℕ → ℤ → Type 0 where
  no_exponent : IsExponent [] (pos 0)
  exponent : {letter digit : ℕ} {sign digits : List ℕ} {negative : Bool} → IsPowerLetter letter
      → IsExponentSign sign negative → IsDigit digit → IsDigits digits
      → IsExponent (letter ∷ (sign ++ digit ∷ digits)) (signed negative (digits_value 10 (digit ∷ digits)))

pub data ReadsNumber : List ℕ → Json → Type 0 where
  number : {sign whole part behind end : List ℕ} {negative : Bool} {power : ℤ} → IsMinus sign negative → IsWhole whole
      → IsFraction part behind → IsExponent end power
      → ReadsNumber (sign ++ (whole ++ (part ++ end)))
      (JsonNumber (signed negative (digits_value 10 (whole ++ behind))) (length behind) power)

-- a hexadecimal digit and its value
pub data IsHexDigit : ℕ → ℕ → Type 0 where
  decimal_digit : {value : ℕ} → value < 10 → IsHexDigit (48 + value) value
  upper_digit : {value : ℕ} → 10 ≤ value → value < 16 → IsHexDigit (55 + value) value
  lower_digit : {value : ℕ} → 10 ≤ value → value < 16 → IsHexDigit (87 + value) value

-- what is after a backslash (byte 92) for one character, and that character
pub data IsShort : ℕ → ℕ → Type 0 where
  quote : IsShort 34 34
  backslash : IsShort 92 92
  slash : IsShort 47 47
  letter_b : IsShort 98 8
  letter_f : IsShort 102 12
  letter_n : IsShort 110 10
  letter_r : IsShort 114 13
  letter_t : IsShort 116 9

-- characters of a string: from the space on but `"` (byte 34) and the backslash, short escapes, and escapes by `u`
-- (byte 117)
pub data ReadsCharacters : List ℕ → List ℕ → Type 0 where
  no_character : ReadsCharacters [] []
  plain_character : {byte : ℕ} {rest characters : List ℕ} → 32 ≤ byte → byte < 128 → byte ≢ 34 → byte ≢ 92
      → ReadsCharacters rest characters
      → ReadsCharacters (byte ∷ rest) (byte ∷ characters)
  short_escape : {byte character : ℕ} {rest characters : List ℕ} → IsShort byte character
      → ReadsCharacters rest characters
      → ReadsCharacters (92 ∷ byte ∷ rest) (character ∷ characters)
  long_escape : {a b c d i j k l : ℕ} {rest characters : List ℕ} → IsHexDigit a i → IsHexDigit b j → IsHexDigit c k
      → IsHexDigit d l → ReadsCharacters rest characters
      → ReadsCharacters (92 ∷ 117 ∷ a ∷ b ∷ c ∷ d ∷ rest) ((((i * 16 + j) * 16 + k) * 16 + l) ∷ characters)

pub data ReadsString : List ℕ → List ℕ → Type 0 where
  string : {text characters : List ℕ} → ReadsCharacters text characters →
      ReadsString (codes "\"" ++ (text ++ codes "\"")) characters

mutual
  pub data ReadsValue : List ℕ → Json → Type 0 where
    false_value : ReadsValue (codes "false") JsonFalse
    true_value : ReadsValue (codes "true") JsonTrue
    null_value : ReadsValue (codes "null") JsonNull
    number_value : {text : List ℕ} {value : Json} → ReadsNumber text value → ReadsValue text value
    string_value : {text characters : List ℕ} → ReadsString text characters → ReadsValue text (JsonString characters)
    empty_list : {blanks : List ℕ} → IsBlanks blanks →
        ReadsValue (codes "[" ++ (blanks ++ codes "]")) (JsonList NoElements)
    list : {text : List ℕ} {elements : Elements} → ReadsElements text elements →
        ReadsValue (codes "[" ++ (text ++ codes "]")) (JsonList elements)
    empty_object : {blanks : List ℕ} → IsBlanks blanks →
        ReadsValue (codes "{" ++ (blanks ++ codes "}")) (JsonObject NoEntries)
    object : {text : List ℕ} {entries : Entries} → ReadsEntries text entries →
        ReadsValue (codes "{" ++ (text ++ codes "}")) (JsonObject entries)

  -- a value between blanks
  pub data Reads : List ℕ → Json → Type 0 where
    json : {before text after : List ℕ} {value : Json} → IsBlanks before → ReadsValue text value → IsBlanks after →
        Reads (before ++ (text ++ after)) value

  -- values with commas between them
  pub data ReadsElements : List ℕ → Elements → Type 0 where
    last_element : {text : List ℕ} {value : Json} → Reads text value → ReadsElements text (ElementThen value NoElements)
    element : {text more : List ℕ} {value : Json} {rest : Elements} → Reads text value → ReadsElements more rest
        → ReadsElements (text ++ (codes "," ++ more)) (ElementThen value rest)

  -- a key between blanks, a colon, and a value
  pub data ReadsEntry : List ℕ → (key : List ℕ) → Json → Type 0 where
    entry : {before text after right key : List ℕ} {value : Json} → IsBlanks before → ReadsString text key
        → IsBlanks after → Reads right value
        → ReadsEntry (before ++ (text ++ (after ++ (codes ":" ++ right)))) key value

  pub data ReadsEntries : List ℕ → Entries → Type 0 where
    last_entry : {text key : List ℕ} {value : Json} → ReadsEntry text key value →
        ReadsEntries text (EntryThen key value NoEntries)
    one_entry : {text more key : List ℕ} {value : Json} {rest : Entries} → ReadsEntry text key value
        → ReadsEntries more rest
        → ReadsEntries (text ++ (codes "," ++ more)) (EntryThen key value rest)

-- a text that reads as a value
abbrev pub IsJson : List ℕ → Type 0
IsJson text = (value : Json) × Reads text value
