use Rattle.type_soundness.proofs.laws.values_fill_room.Goals as goal
use Rattle.type_soundness.proofs.Bounded.{values_fill}

-- src/laws.rt
pub returns : goal.returns
returns c = record { law = values_fill }
