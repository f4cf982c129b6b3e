-- The text of a dump of bytes.
use Rattle.std.specs.Prelude.{◌≡◌, ℕ, ◌+◌, ◌-◌, ◌*◌, ◌/◌, ◌%◌, Bool, List, [], ◌∷◌, ◌++◌, Option, None, Some, ◌==◌, ◌&&◌, nat_le, length, take, drop, slice_range, map, replicate, slice_get, if◌then◌else◌, codes}
use Rattle.std.specs.List.{flat_map, range_with_len}
use Rattle.std.specs.Int.Digits.{digits_of}
use Rattle.std.specs.Io.KnownBytes.{Appends}
use Rattle.bit_space.specs.SpaceView.{SpaceView}
use Rattle.text_output.specs.HexDigits.{hex_digit}
use Rattle.text_output.specs.Written.{AppendsPart}

-- hexadecimal digits of a place, after the zeros that make them eight, if they are fewer
unfoldable pub place_text : ℕ → List ℕ
place_text place =
    let digits = map hex_digit (digits_of 16 place) in
    replicate (8 - length digits) 48 ++ digits

-- two digits for a byte, two spaces if there is none
abbrev pub two_digits : Option ℕ → List ℕ
two_digits None = codes "  "
two_digits (Some byte) = hex_digit (byte / 16) ∷ hex_digit (byte % 16) ∷ []

-- a space before the even ones of the 16 columns of a line
abbrev pub gap : ℕ → List ℕ
gap i = if i % 2 == 0 then codes " " else []

-- a column: the digits of its byte
abbrev pub column : List ℕ → ℕ → List ℕ
column bytes i = gap i ++ two_digits (slice_get bytes i)

unfoldable pub columns : List ℕ → List ℕ
columns bytes = flat_map (column bytes) (range_with_len 0 16)

-- a byte as text: itself from the space (32) to `~` (126), else a dot
abbrev pub shown : ℕ → ℕ
shown byte = if nat_le 32 byte && nat_le byte 126 then byte else 46

-- the line of up to 16 bytes that begin at a place, with its line feed
unfoldable pub line_text : ℕ → List ℕ → List ℕ
line_text place bytes =
    place_text place ++ codes ":" ++ columns bytes ++ codes "  " ++ map shown bytes ++ codes "\n"

-- the lines of bytes that begin at a place, one for each 16 of them
unfoldable pub lines_text : ℕ → List ℕ → List ℕ
lines_text place bytes =
    flat_map (λ line. line_text (place + 16 * line) (take 16 (drop (16 * line) bytes)))
    (range_with_len 0 ((length bytes + 15) / 16))

-- of a file's bytes, the lines of at most `size` of them from the place `from` on
abbrev pub range_text : (from size : ℕ) (bytes : List ℕ) → List ℕ
range_text from size bytes = lines_text from (take size (drop from bytes))

-- and the line of `count` of them at a place
abbrev pub row_text : (place count : ℕ) (bytes : List ℕ) → List ℕ
row_text place count bytes = line_text place (slice_range bytes place (place + count))

-- the line above them all
unfoldable pub ruler_text : List ℕ
ruler_text = codes "76543210  0011 2233 4455 6677 8899 aabb ccdd eeff  0123456789ABCDEF\n"

-- a dump of at most `size` of the bytes from the place `from` on
unfoldable pub dump_text : (bytes : List ℕ) (from size : ℕ) (ruler : Bool) → List ℕ
dump_text bytes from size ruler =
    (if ruler then ruler_text else []) ++ range_text from size bytes

-- if the bytes of a space are known, a writer accepts a text of them
abbrev pub Dumps : SpaceView → (old new : Option (List ℕ)) → (text : List ℕ → List ℕ) → Type 0
Dumps space old new text = (bytes : List ℕ) → space.bytes ≡ Some bytes → Appends old new (text bytes)

-- or the first bytes of that text, but not all of them
abbrev pub DumpsPart : SpaceView → (old new : Option (List ℕ)) → (text : List ℕ → List ℕ) → Type 0
DumpsPart space old new text = (bytes : List ℕ) → space.bytes ≡ Some bytes → AppendsPart old new (text bytes)
