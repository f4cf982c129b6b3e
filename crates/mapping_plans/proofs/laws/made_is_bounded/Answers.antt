use Rattle.mapping_plans.proofs.laws.made_is_bounded.Goals as goal
use Rattle.mapping_plans.proofs.Makes.{made_bounded}

-- src/laws.rt
pub returns : goal.returns
returns c = record { law = made_bounded }
