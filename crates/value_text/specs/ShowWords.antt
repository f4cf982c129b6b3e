-- The words of a shown value: where it is, and its number, offset or string.
use Rattle.std.specs.Prelude.{ℕ, zero, suc, ◌*◌, ◌-◌, ◌/◌, ◌%◌, ◌^◌, ◌+◌, ℤ, pos, negsuc, Bool, true, false, List, [], ◌∷◌, ◌++◌, Option, Some, None, ◌==◌, nat_lt, slice_get, if◌then◌else◌, codes, decimal, take, drop, length}
use Rattle.std.specs.Fmt.{signed_decimal}
use Rattle.std.specs.List.{prefix_len, flat_map, range_with_len}
use Rattle.text_output.specs.HexDigits.{hex_digit}
use Rattle.text_output.specs.declared.style.Numbers.{Numbers}
use Rattle.text_output.specs.declared.style.Numbers.TheVariants.{Decimal, Hexadecimal, Digits}
use Rattle.value_text.specs.StyledNumbers.{signed_hex}
use Rattle.value_text.specs.ValueText.{string_text}

-- the last hexadecimal digits of a number, so many
abbrev pub hex_digits : (count : ℕ) → ℕ → List ℕ
hex_digits zero n = []
hex_digits (suc k) n = hex_digit (n / 2 ^ (4 * k) % 16) ∷ hex_digits k n

abbrev pub is_zero_digit : ℕ → Bool
is_zero_digit digit = digit == 48

-- a number from 1 to 2 ^ 64 - 1 without zeros before it
unfoldable pub hex_text : ℕ → List ℕ
hex_text n = drop (prefix_len is_zero_digit (hex_digits 16 n)) (hex_digits 16 n)

-- the eight last digits of a place in bytes, and those before them, if it has more
unfoldable pub byte_place : ℕ → List ℕ
byte_place byte = hex_text (byte / 2 ^ 32) ++ hex_digits 8 byte

-- a point and the bit in its byte, or blanks at the start of a byte
abbrev pub bit_place : ℕ → List ℕ
bit_place bit = if bit == 0 then codes "  " else codes "." ++ (48 + bit) ∷ []

-- where a part begins: its byte, and the bit in it
abbrev pub place_text : (start : ℕ) → List ℕ
place_text start = byte_place (start / 8) ++ bit_place (start % 8)

-- the size of a part after its place, in the same form, if sizes are shown; blanks for a line that is no part
abbrev pub size_cell : (sizes : Bool) → (size : ℕ) → List ℕ
size_cell false size = []
size_cell true size = codes " " ++ place_text size

abbrev pub no_size_cell : (sizes : Bool) → List ℕ
no_size_cell false = []
no_size_cell true = codes "           "

-- some bytes of a file: the place of the first of them, and these bytes
pub record FileBytes : Type 0 where
  pub from : ℕ
  pub bytes : List ℕ

-- the byte of the file at a place, if it is among them
abbrev pub byte_at : FileBytes → (place : ℕ) → Option ℕ
byte_at file place = if nat_lt place file.from then None else slice_get file.bytes (place - file.from)

-- the byte after those that so many bits from a start on touch
abbrev pub byte_after : (start size : ℕ) → ℕ
byte_after start size = (start + size + 7) / 8

-- one of the bytes that a part takes
abbrev pub part_byte : FileBytes → (start size i : ℕ) → Option ℕ
part_byte file start size i =
    if nat_lt (start / 8 + i) (byte_after start size) then byte_at file (start / 8 + i) else None

-- two digits for a byte, blanks if there is none
abbrev pub two_digits : Option ℕ → List ℕ
two_digits None = codes "  "
two_digits (Some byte) = hex_digit (byte / 16) ∷ hex_digit (byte % 16) ∷ []

abbrev pub byte_column : FileBytes → (start size i : ℕ) → List ℕ
byte_column file start size i = two_digits (part_byte file start size i)

unfoldable pub byte_columns : FileBytes → (start size : ℕ) → List ℕ
byte_columns file start size = flat_map (byte_column file start size) (range_with_len 0 8)

-- whether a part takes more bytes
abbrev pub more_bytes : (start size : ℕ) → List ℕ
more_bytes start size = if nat_lt (start / 8 + 8) (byte_after start size) then codes ".." else codes "  "

abbrev pub no_bytes : List ℕ
no_bytes = codes "                   "

-- the first eight bytes that a part takes after its place, if bytes are shown; blanks for a line that is no part, and
-- where the file isn't known
abbrev pub bytes_cell_of : Option FileBytes → (start size : ℕ) → List ℕ
bytes_cell_of None start size = no_bytes
bytes_cell_of (Some file) start size = codes " " ++ (byte_columns file start size ++ more_bytes start size)

abbrev pub file_cell : (shown : Bool) → Option FileBytes → (start size : ℕ) → List ℕ
file_cell false file start size = []
file_cell true file start size = bytes_cell_of file start size

abbrev pub no_file_cell : (shown : Bool) → List ℕ
no_file_cell false = []
no_file_cell true = no_bytes

-- a number as one that fits in 64 bits
abbrev pub natural_of : ℤ → Option ℕ
natural_of (pos n) = if nat_lt n (2 ^ 64) then Some n else None
natural_of (negsuc n) = None

-- the same number in hexadecimal after the decimal one, from 10 on
abbrev pub hex_cell : Option ℕ → List ℕ
hex_cell None = []
hex_cell (Some n) = if nat_lt n 10 then [] else codes " 0x" ++ hex_text n

-- in the form that is given, or else in decimal with hexadecimal after it
unfoldable pub shown_number : Option Numbers → ℤ → List ℕ
shown_number None number = signed_decimal number ++ hex_cell (natural_of number)
shown_number (Some Decimal) number = signed_decimal number
shown_number (Some Hexadecimal) number = signed_hex number
shown_number (Some Digits) number = signed_decimal number

-- the unit after a magnitude
abbrev pub unit_cell : (unit : ℕ) → List ℕ
unit_cell unit =
    if unit == 8 then codes " B"
    else if unit == 1 then codes " b"
    else codes " of " ++ (decimal unit ++ codes " b")

-- bits that are no whole byte
abbrev pub bits_after : ℕ → List ℕ
bits_after bits = if bits == 0 then [] else codes " " ++ (decimal bits ++ codes " b")

-- so many bits in bytes, from one byte on
abbrev pub bytes_cell : Option Numbers → (bits : ℕ) → List ℕ
bytes_cell numbers bits =
    if nat_lt bits 8 then []
    else codes ", " ++ (shown_number numbers (pos (bits / 8)) ++ (codes " B" ++ bits_after (bits % 8)))

-- an offset in bytes, unless its unit is the byte or it is negative
abbrev pub in_bytes : Option Numbers → (unit : ℕ) → Option ℕ → List ℕ
in_bytes numbers unit None = []
in_bytes numbers unit (Some n) = if unit == 8 then [] else bytes_cell numbers (n * unit)

unfoldable pub shown_offset : Option Numbers → (unit : ℕ) → (magnitude : ℤ) → List ℕ
shown_offset numbers unit magnitude =
    shown_number numbers magnitude ++ (unit_cell unit ++ in_bytes numbers unit (natural_of magnitude))

-- how many elements or bytes are left out
abbrev pub left_out : ℕ → List ℕ
left_out count = codes "..+" ++ decimal count

-- a string, cut after so many lines of 16 bytes
abbrev pub cut_at : (bytes : List ℕ) → (most : ℕ) → List ℕ
cut_at bytes most =
    if nat_lt (16 * most) (length bytes)
    then string_text (take (16 * most) bytes) ++ left_out (length bytes - 16 * most)
    else string_text bytes

abbrev pub shown_string : (most : Option ℕ) → List ℕ → List ℕ
shown_string None bytes = string_text bytes
shown_string (Some most) bytes = cut_at bytes most
