-- The words of a printed value: integers, strings and names.
use Rattle.std.specs.Prelude.{ℕ, ◌/◌, ◌%◌, ℤ, Bool, true, false, not, ◌&&◌, List, [], ◌∷◌, ◌++◌, Option, Some, None, ◌==◌, nat_le, if◌then◌else◌, codes, decimal}
use Rattle.std.specs.Fmt.{signed_decimal}
use Rattle.pickle_types.specs.declared.integer.IntegerType.{IntegerType}
use Rattle.pickle_meaning.specs.Values.{Naming}
use Rattle.text_output.specs.HexDigits.{hex_digit}

-- the letter of a width, if it has one; 32 bits need none
abbrev pub width_letter : ℕ → Option (List ℕ)
width_letter width =
    if width == 32 then Some (codes "")
    else if width == 8 then Some (codes "B")
    else if width == 16 then Some (codes "H")
    else if width == 64 then Some (codes "L")
    else if width == 4 then Some (codes "N")
    else None

-- the suffix of an integer's type, if it has one: `U` if it is unsigned, then the letter of its width
abbrev pub with_sign_letter : (signed : Bool) → Option (List ℕ) → Option (List ℕ)
with_sign_letter signed None = None
with_sign_letter true (Some letter) = Some letter
with_sign_letter false (Some letter) = Some (codes "U" ++ letter)

abbrev pub suffix_of : IntegerType → Option (List ℕ)
suffix_of type = with_sign_letter type.signed (width_letter type.width)

abbrev pub type_word : (signed : Bool) → List ℕ
type_word true = codes "(int<"
type_word false = codes "(uint<"

-- the type before the digits
abbrev pub cast_text : IntegerType → ℤ → List ℕ
cast_text type number = type_word type.signed ++ (decimal type.width ++ (codes ">) " ++ signed_decimal number))

abbrev pub typed_text : Option (List ℕ) → IntegerType → ℤ → List ℕ
typed_text (Some suffix) type number = signed_decimal number ++ suffix
typed_text None type number = cast_text type number

unfoldable pub integer_text : IntegerType → ℤ → List ℕ
integer_text type number = typed_text (suffix_of type) type number

-- a unit of so many bits
abbrev pub unit_text : ℕ → List ℕ
unit_text unit =
    if unit == 1 then codes "b"
    else if unit == 8 then codes "B"
    else decimal unit

-- whether a byte of a string is printed as itself: from the space (32) to `~` (126), but not `"` (34) and `\` (92)
abbrev pub is_plain : ℕ → Bool
is_plain byte = nat_le 32 byte && nat_le byte 126 && not (byte == 34) && not (byte == 92)

-- any other byte: `\\`, `\"`, `\n`, `\t`, or `\x` and two digits
abbrev pub escape_text : ℕ → List ℕ
escape_text byte =
    if byte == 92 then codes "\\\\"
    else if byte == 34 then codes "\\\""
    else if byte == 10 then codes "\\n"
    else if byte == 9 then codes "\\t"
    else codes "\\x" ++ hex_digit (byte / 16) ∷ hex_digit (byte % 16) ∷ []

abbrev pub spelled_byte : (escape : ℕ → List ℕ) → ℕ → List ℕ
spelled_byte escape byte = if is_plain byte then byte ∷ [] else escape byte

-- each byte as itself if it is plain, else as an escape
abbrev pub spelled : (escape : ℕ → List ℕ) → List ℕ → List ℕ
spelled escape [] = []
spelled escape (byte ∷ bytes) = spelled_byte escape byte ++ spelled escape bytes

abbrev pub bytes_text : List ℕ → List ℕ
bytes_text bytes = spelled escape_text bytes

unfoldable pub string_text : List ℕ → List ℕ
string_text bytes = codes "\"" ++ (bytes_text bytes ++ codes "\"")

-- the name of a type, or its sort if it is nameless
abbrev pub title_text : (sort : List ℕ) → Naming → List ℕ
title_text sort None = sort
title_text sort (Some name) = name

-- the name before a field
abbrev pub name_text : Naming → List ℕ
name_text None = []
name_text (Some name) = name ++ codes "="

-- a comma, but not before the first
abbrev pub comma : (first : Bool) → List ℕ
comma true = []
comma false = codes ","
