-- How many slots a store promises.
use Rattle.std.specs.Prelude.{ℕ, min, nat_le, if◌then◌else◌}
use Rattle.value_store.specs.declared.store.slots.Marks.{Marks}
use Rattle.value_store.specs.Slots.{Held}

-- the capacity of the vector that has the least
abbrev pub least_capacity : Marks → ℕ
least_capacity k = min (min (min (min (min k.nodes k.families) k.links) k.pending) k.texts) k.bytes

-- a store that promises so many slots of each kind, as one that was made with them
abbrev pub promising : (slots : ℕ) → Held → Held
promising slots h = record h { room = record h.room { least = slots } }

-- How many slots a store promises to what fills at most `bound` of each kind: all that it has capacity for, where that
-- is enough. Otherwise those that it was made with.
abbrev pub promised : (bound : ℕ) → Held → ℕ
promised bound h = if nat_le bound (least_capacity h.capacity) then least_capacity h.capacity else h.room.least
