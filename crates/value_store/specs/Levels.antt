-- What calls do to the frames, and whether the frames fit a store.
use Rattle.std.specs.Prelude.{◌≤◌, List, [], ◌∷◌, ◌++◌, Option}
use Rattle.value_store.specs.declared.store.room.Room.{Room}
use Rattle.pickle_meaning.specs.Room.{Slot, slots}
use Rattle.pickle_meaning.specs.Values.{Value, Levels}

-- more members of the innermost value
abbrev pub extended : Levels → List (Option Value) → Levels
extended [] vs = vs ∷ []
extended (top ∷ outer) vs = (top ++ vs) ∷ outer

-- the frames fill no more slots of any kind than the store was made with
abbrev pub FitsIn : (room : Room) → Levels → Type 0
FitsIn room levels = (kind : Slot) → slots kind levels ≤ room.least
