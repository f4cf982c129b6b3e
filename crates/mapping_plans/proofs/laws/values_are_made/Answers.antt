use Rattle.mapping_plans.proofs.laws.values_are_made.Goals as goal
use Rattle.mapping_plans.proofs.Counts.{values_made}

-- src/laws.rt
pub returns : goal.returns
returns c = record { law = values_made }
