use Rattle.mapping_plans.proofs.laws.tries_are_few.Goals as goal
use Rattle.mapping_plans.proofs.Outcomes.{tries_few}

-- src/laws.rt
pub returns : goal.returns
returns c = record { law = tries_few }
