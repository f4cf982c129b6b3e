use Rattle.fault_parts.proofs.laws.arises_once.Goals as goal
use Rattle.fault_parts.proofs.Once.{arises_once}

-- src/laws.rt
pub returns : goal.returns
returns c =
    record { law = arises_once c.has_one_outcome.ensures.law c.plan_is_meant.ensures.law c.values_are_wide.ensures.law }
