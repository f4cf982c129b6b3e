use Rattle.mapping_plans.proofs.laws.room_is_enough.Goals as goal
use Rattle.mapping_plans.proofs.Rooms.{room_enough}

-- src/laws.rt
pub returns : goal.returns
returns c = record { law = room_enough }
