use Rattle.mapping_plans.proofs.laws.has_one_outcome.Goals as goal
use Rattle.mapping_plans.proofs.Outcomes.{one_outcome}

-- src/laws.rt
pub returns : goal.returns
returns c = record { law = one_outcome }
