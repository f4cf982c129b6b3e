use Rattle.first_numbers.proofs.laws.fixed_are_values.Goals as goal
use Rattle.first_numbers.proofs.Outcomes.{fixed_are_values}

-- src/laws.rt
pub returns : goal.returns
returns c = record { law = fixed_are_values }
