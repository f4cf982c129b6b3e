use Rattle.type_soundness.proofs.laws.bounds_are_slots.Goals as goal
use Rattle.type_soundness.proofs.InSlots.{bounds_in_slots}

-- src/laws.rt
pub returns : goal.returns
returns c = record { law = bounds_in_slots }
