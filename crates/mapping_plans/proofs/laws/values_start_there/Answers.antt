use Rattle.mapping_plans.proofs.laws.values_start_there.Goals as goal
use Rattle.mapping_plans.proofs.Outcomes.{values_start}

-- src/laws.rt
pub returns : goal.returns
returns c = record { law = values_start }
