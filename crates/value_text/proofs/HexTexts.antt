-- Hexadecimal digits.
use Rattle.std.proofs.Common.{◌≡◌, ℕ, zero, suc, ◌-◌, ◌%◌, ◌<◌, [], ◌∷◌, ◌++◌, refl, arith}
use Rattle.text_output.specs.HexDigits.{hex_digit}
use Rattle.value_text.specs.StyledNumbers.{hex_digits, upper_digits}

-- the digits before the last, and the last
pub digits_end : (most number : ℕ) → 0 < most →
    hex_digits most number ≡ upper_digits (most - 1) number ++ hex_digit (number % 16) ∷ []
digits_end zero number some = absurd (omega (arith, some))
digits_end (suc most) number some = let less : suc most - 1 ≡ most = omega arith in rw less refl
