use Rattle.bit_space.proofs.laws.negative_starts_with_one.Goals as goal
use Rattle.bit_space.proofs.Signs.{negative_starts_with_one}

-- src/laws.rt
pub returns : goal.returns
returns c = record { law = negative_starts_with_one }
