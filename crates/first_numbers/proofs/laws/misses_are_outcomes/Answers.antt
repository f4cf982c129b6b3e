use Rattle.first_numbers.proofs.laws.misses_are_outcomes.Goals as goal
use Rattle.first_numbers.proofs.Outcomes.{misses_are_outcomes}

-- src/laws.rt
pub returns : goal.returns
returns c = record { law = misses_are_outcomes }
