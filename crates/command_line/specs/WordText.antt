-- How a usage error prints an argument.
use Rattle.std.specs.Prelude.{ℕ, ◌/◌, ◌%◌, ◌&&◌, List, [], ◌∷◌, ◌++◌, ◌==◌, nat_le, if◌then◌else◌, codes}
use Rattle.std.specs.List.{flat_map}
use Rattle.text_output.specs.HexDigits.{hex_digit}

abbrev pub digits_text : ℕ → List ℕ
digits_text byte = codes "\\x" ++ hex_digit (byte / 16) ∷ hex_digit (byte % 16) ∷ []

-- a byte from the space (32) to `~` (126) is itself, any other is `\n`, `\t`, or `\x` and two hexadecimal digits
abbrev pub word_byte : ℕ → List ℕ
word_byte byte =
    if nat_le 32 byte && nat_le byte 126 then byte ∷ []
    else if byte == 10 then codes "\\n"
    else if byte == 9 then codes "\\t"
    else digits_text byte

abbrev pub word_text : List ℕ → List ℕ
word_text word = flat_map word_byte word
