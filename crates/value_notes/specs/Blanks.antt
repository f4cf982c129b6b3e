-- Classes of the bytes of a note.
use Rattle.std.specs.Prelude.{ℕ, ◌-◌, Bool, not, ◌&&◌, ◌||◌, if◌then◌else◌, ◌==◌, nat_lt, nat_le, List, [], drop}
use Rattle.std.specs.List.{prefix_len}
use Rattle.std.specs.Str.{bytes_eq}
use Rattle.std.specs.Char.{is_ascii_alphanumeric}

-- a space, a tab, a line feed or a carriage return
abbrev pub is_blank : ℕ → Bool
is_blank b = b == 32 || b == 9 || b == 10 || b == 13

-- a letter, a digit or `_`
abbrev pub is_word : ℕ → Bool
is_word b = is_ascii_alphanumeric b || b == 95

-- a byte of a name: no control byte, and no double quote
abbrev pub is_name_byte : ℕ → Bool
is_name_byte b = nat_le 32 b && not (b == 34) && not (b == 127)

-- the digit that a byte is, or 99
abbrev pub digit_of : ℕ → ℕ
digit_of b =
    if nat_le 48 b && nat_le b 57 then b - 48
    else if nat_le 97 b && nat_le b 102 then b - 87
    else if nat_le 65 b && nat_le b 70 then b - 55
    else 99

-- a digit of a base, or `_`
abbrev pub is_digit : ℕ → ℕ → Bool
is_digit base b = nat_lt (digit_of b) base || b == 95

-- the text after the blanks at its front
abbrev pub skip : List ℕ → List ℕ
skip text = drop (prefix_len is_blank text) text

-- nothing but blanks is left
abbrev pub is_end : List ℕ → Bool
is_end text = bytes_eq (skip text) []
