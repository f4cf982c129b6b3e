-- The laws of signed numbers.
use Rattle.std.specs.Prelude.{◌≡◌, ◌↔◌, ◌<ℤ◌, ℕ, List, ◌∷◌, length, pos}
use Rattle.bit_space.specs.declared.order.Order.{Order}
use Rattle.bit_space.specs.Bits.{AreDigits, digits, number, signed_numeral, twos_complement}

-- in two's complement a number is the number of the digits after the first, less the first times its place value
abbrev pub FirstDigitSigns : Type 0
FirstDigitSigns = (order : Order) (bits : List ℕ) → AreDigits bits →
    twos_complement (length bits) (number order bits) ≡ signed_numeral (digits order bits)

-- a signed number is negative exactly where its first digit is 1
abbrev pub NegativeStartsWithOne : Type 0
NegativeStartsWithOne = (first : ℕ) (rest : List ℕ) → AreDigits (first ∷ rest) →
    (signed_numeral (first ∷ rest) <ℤ pos 0) ↔ (first ≡ 1)
