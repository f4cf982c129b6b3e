use Rattle.bit_space.proofs.laws.first_digit_signs.Goals as goal
use Rattle.bit_space.proofs.Signs.{first_digit_signs}

-- src/laws.rt
pub returns : goal.returns
returns c = record { law = first_digit_signs }
