-- Frames that need more slots than a store was made with.
use Rattle.std.specs.Prelude.{◌<◌}
use Rattle.value_store.specs.declared.store.room.Room.{Room}
use Rattle.pickle_meaning.specs.Room.{Slot, slots}
use Rattle.pickle_meaning.specs.Values.{Levels}
use Rattle.value_store.specs.Weights.{IsUnbounded}

-- the frames fill more slots of some kind than the store was made with, where its weight isn't bounded
abbrev pub Exceeds : Room → Levels → Type 0
Exceeds room levels = IsUnbounded room → (kind : Slot) × (room.least < slots kind levels)
