use Rattle.mapping_plans.proofs.laws.plan_is_meant.Goals as goal
use Rattle.mapping_plans.proofs.Exists.{plan_means}

-- src/laws.rt
pub returns : goal.returns
returns c = record { law = plan_means }
