-- Digits.
use Rattle.std.specs.Prelude.{ℕ, zero, suc, ◌+◌, ◌/◌, ◌%◌, if◌then◌else◌, nat_lt, List, [], ◌∷◌, ◌++◌}
use Rattle.std.specs.List.{flat_map}

-- the last `width` decimal digits of a number, with zeros before those that it has ('0' is 48)
abbrev pub padded : (width number : ℕ) → List ℕ
padded zero number = []
padded (suc width) number = padded width (number / 10) ++ (48 + number % 10) ∷ []

-- the lower-case hexadecimal digit of a value below 16 ('a' is 97)
abbrev pub hex_digit : ℕ → ℕ
hex_digit n = if nat_lt n 10 then 48 + n else 87 + n

abbrev pub hex_byte : ℕ → List ℕ
hex_byte b = hex_digit (b / 16) ∷ hex_digit (b % 16) ∷ []

abbrev pub hex_bytes : List ℕ → List ℕ
hex_bytes bytes = flat_map hex_byte bytes
