-- Numbers as arguments.
use Rattle.std.specs.Prelude.{◌≡◌, ℕ, ◌<◌, ◌^◌, ◌⊎◌, ◌==◌, cond, List, [], ◌∷◌}
use Rattle.std.specs.Str.Parse.{IsNumeral, digits_value}

-- the bytes after a `+` (43), if the first is one, else all
abbrev pub without_plus : List ℕ → List ℕ
without_plus [] = []
without_plus (byte ∷ rest) = cond (byte == 43) rest (byte ∷ rest)

-- a number in decimal digits, which may have a `+` before them
abbrev pub IsNumber : List ℕ → ℕ → Type 0
IsNumber word number = IsNumeral 10 (without_plus word) × (digits_value 10 (without_plus word) ≡ number)

-- an argument is no such number below 2^64
abbrev pub IsNoNumber : List ℕ → Type 0
IsNoNumber word = ¬ (IsNumeral 10 (without_plus word) × (digits_value 10 (without_plus word) < 2 ^ 64))

-- a number in decimal digits, or after `0x` (48, 120) in hexadecimal digits
abbrev pub IsCount : List ℕ → ℕ → Type 0
IsCount word number =
    (IsNumeral 10 word × (digits_value 10 word ≡ number))
    ⊎ ((digits : List ℕ) × (word ≡ 48 ∷ 120 ∷ digits) × IsNumeral 16 digits × (digits_value 16 digits ≡ number))

-- a number of bytes that have less than 2^64 bits
abbrev pub IsByteCount : List ℕ → ℕ → Type 0
IsByteCount word bytes = IsCount word bytes × (bytes < 2 ^ 61)
