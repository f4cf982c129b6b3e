use Rattle.mapping_plans.proofs.laws.values_fit.Goals as goal
use Rattle.mapping_plans.proofs.Fitting.{values_fit}

-- src/laws.rt
pub returns : goal.returns
returns c = record { law = values_fit }
