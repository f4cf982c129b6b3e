use Rattle.mapping_plans.proofs.laws.steps_are_bounded.Goals as goal
use Rattle.mapping_plans.proofs.Costs.{plan_at_most}

-- src/laws.rt
pub returns : goal.returns
returns c = record { law = plan_at_most }
