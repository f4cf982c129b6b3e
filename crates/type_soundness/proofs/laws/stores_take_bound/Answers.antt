use Rattle.type_soundness.proofs.laws.stores_take_bound.Goals as goal
use Rattle.type_soundness.proofs.Held.{stores_take}

-- src/laws.rt
pub returns : goal.returns
returns c = record { law = stores_take }
