use Rattle.type_soundness.proofs.laws.values_take_bound.Goals as goal
use Rattle.type_soundness.proofs.Bounded.{values_take}

-- src/laws.rt
pub returns : goal.returns
returns c = record { law = values_take }
