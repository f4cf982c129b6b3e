use Rattle.mapping_plans.proofs.laws.values_are_wide.Goals as goal
use Rattle.mapping_plans.proofs.Outcomes.{values_wide}

-- src/laws.rt
pub returns : goal.returns
returns c = record { law = values_wide }
