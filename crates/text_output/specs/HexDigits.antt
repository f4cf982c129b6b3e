-- Hexadecimal digits.
use Rattle.std.specs.Prelude.{ℕ, ◌+◌, nat_lt, if◌then◌else◌}

-- the lower-case hexadecimal digit of a value below 16: '0' is 48 and 'a' is 97
abbrev pub hex_digit : ℕ → ℕ
hex_digit n = if nat_lt n 10 then 48 + n else 87 + n
