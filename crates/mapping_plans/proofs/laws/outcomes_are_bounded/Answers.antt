use Rattle.mapping_plans.proofs.laws.outcomes_are_bounded.Goals as goal
use Rattle.mapping_plans.proofs.OnBits.{outcomes_bounded}

-- src/laws.rt
pub returns : goal.returns
returns c = record { law = outcomes_bounded }
