-- Offsets as arguments.
use Rattle.std.specs.Prelude.{◌≡◌, ℕ, ◌*◌, ◌≤◌, ◌^◌, List, ◌∷◌, ◌++◌, ◌⊎◌, codes}
use Rattle.std.specs.Str.Parse.{IsNumeral, digits_value}

-- a unit of so many bits: `b`, `B`, or their number in decimal digits
abbrev pub IsUnit : List ℕ → ℕ → Type 0
IsUnit unit bits =
    ((unit ≡ codes "b") × (bits ≡ 1))
    ⊎ (((unit ≡ codes "B") × (bits ≡ 8))
    ⊎ (IsNumeral 10 unit × (digits_value 10 unit ≡ bits) × (1 ≤ bits) × (bits ≤ 4294967295)))

-- an argument that names so many bits: a magnitude in decimal digits, `#` (byte 35), and the unit that it counts
pub record IsOffsetWord (word : List ℕ) (bits : ℕ) : Type 0 where
  pub magnitude : List ℕ
  pub unit : List ℕ
  pub unit_bits : ℕ
  pub parts : word ≡ magnitude ++ 35 ∷ unit
  pub number : IsNumeral 10 magnitude
  pub counts : IsUnit unit unit_bits
  pub product : digits_value 10 magnitude * unit_bits ≡ bits

-- an argument isn't an offset below 2^64
abbrev pub IsNoOffset : List ℕ → Type 0
IsNoOffset word = (bits : ℕ) → IsOffsetWord word bits → 2 ^ 64 ≤ bits

-- nor an offset of whole bytes
abbrev pub IsNoByteOffset : List ℕ → Type 0
IsNoByteOffset word = (bytes : ℕ) → IsOffsetWord word (8 * bytes) → 2 ^ 64 ≤ 8 * bytes
