use Rattle.mapping_plans.proofs.laws.outcomes_fit.Goals as goal
use Rattle.mapping_plans.proofs.OnBits.{outcomes_fit}

-- src/laws.rt
pub returns : goal.returns
returns c = record { law = outcomes_fit }
