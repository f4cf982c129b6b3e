-- Integers and offsets in a style.
use Rattle.std.specs.Prelude.{ℕ, zero, suc, ◌/◌, ◌%◌, ℤ, pos, negsuc, ◌&&◌, List, [], ◌∷◌, ◌++◌, Option, Some, None, ◌==◌, nat_lt, if◌then◌else◌, codes, decimal}
use Rattle.std.specs.Fmt.{signed_decimal}
use Rattle.pickle_types.specs.declared.integer.IntegerType.{IntegerType}
use Rattle.text_output.specs.declared.style.Numbers.{Numbers}
use Rattle.text_output.specs.declared.style.Numbers.TheVariants.{Decimal, Hexadecimal, Digits}
use Rattle.text_output.specs.HexDigits.{hex_digit}
use Rattle.value_text.specs.ValueText.{suffix_of, type_word, integer_text, unit_text}

-- the hexadecimal digits of a number below 16^most, without zeros before them
abbrev pub hex_digits : (most : ℕ) → ℕ → List ℕ
hex_digits zero number = []
hex_digits (suc most) number =
    (if nat_lt number 16 then [] else hex_digits most (number / 16)) ++ hex_digit (number % 16) ∷ []

-- those before the last one
abbrev pub upper_digits : (most : ℕ) → ℕ → List ℕ
upper_digits most number = if nat_lt number 16 then [] else hex_digits most (number / 16)

-- the digits of a number below 2^128
unfoldable pub hexadecimal : ℕ → List ℕ
hexadecimal number = hex_digits 32 number

abbrev pub signed_hex : ℤ → List ℕ
signed_hex (pos number) = codes "0x" ++ hexadecimal number
signed_hex (negsuc number) = codes "-" ++ (codes "0x" ++ hexadecimal (suc number))

-- the suffix after hexadecimal digits, if there is one: `B` alone would be one more digit
abbrev pub hex_suffix : IntegerType → Option (List ℕ)
hex_suffix type = if type.signed && (type.width == 8) then None else suffix_of type

-- the type before the digits
abbrev pub hex_cast : IntegerType → ℤ → List ℕ
hex_cast type number = type_word type.signed ++ (decimal type.width ++ (codes ">) " ++ signed_hex number))

abbrev pub typed_hex : Option (List ℕ) → IntegerType → ℤ → List ℕ
typed_hex (Some suffix) type number = signed_hex number ++ suffix
typed_hex None type number = hex_cast type number

unfoldable pub hex_integer : IntegerType → ℤ → List ℕ
hex_integer type number = typed_hex (hex_suffix type) type number

abbrev pub integer_in : Numbers → IntegerType → ℤ → List ℕ
integer_in Decimal type number = integer_text type number
integer_in Hexadecimal type number = hex_integer type number
integer_in Digits type number = signed_decimal number

-- what is behind a magnitude: nothing, where digits are alone
unfoldable pub unit_in : Numbers → (unit : ℕ) → List ℕ
unit_in Decimal unit = codes "#" ++ unit_text unit
unit_in Hexadecimal unit = codes "#" ++ unit_text unit
unit_in Digits unit = []

unfoldable pub offset_in : Numbers → IntegerType → (unit : ℕ) → ℤ → List ℕ
offset_in numbers type unit magnitude = integer_in numbers type magnitude ++ unit_in numbers unit

-- an integer in JSON: a number, or a string of hexadecimal digits
unfoldable pub quoted_hex : ℤ → List ℕ
quoted_hex number = codes "\"" ++ (signed_hex number ++ codes "\"")

abbrev pub json_number : Numbers → ℤ → List ℕ
json_number Decimal number = signed_decimal number
json_number Hexadecimal number = quoted_hex number
json_number Digits number = signed_decimal number

-- the unit is in bits
unfoldable pub json_offset_in : Numbers → (magnitude : ℤ) (unit : ℕ) → List ℕ
json_offset_in numbers magnitude unit =
    codes "{\"magnitude\":" ++ (json_number numbers magnitude ++ (codes ",\"unit\":" ++ (decimal unit ++ codes "}")))
