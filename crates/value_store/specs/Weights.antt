-- What stored values weigh, and which weights a store takes.
use Rattle.std.specs.Prelude.{ℕ, ◌+◌, ◌*◌, ◌<◌, ◌≤◌}
use Rattle.value_store.specs.declared.store.room.Growth.{Growth}
use Rattle.value_store.specs.declared.store.room.Growth.TheVariants.{Free, Never, Within}
use Rattle.value_store.specs.declared.store.room.Room.{Room}
use Rattle.value_store.specs.declared.store.slots.Marks.{Marks}
use Rattle.value_store.specs.Slots.{Held, marks_of}
use Rattle.value_store.specs.Takes.{Vector, of_vector}

-- the bytes of what is stored: 24 a node, 16 a family, 8 a link, a part of an open value and the end of a text or row
abbrev pub weight : Marks → ℕ
weight n = 24 * n.nodes + 16 * n.families + 8 * n.links + 8 * n.pending + 8 * n.texts + n.bytes

-- a store whose weight isn't bounded
abbrev pub GrowsFreely : Growth → Type 0
GrowsFreely Free = Unit {0}
GrowsFreely Never = Unit {0}
GrowsFreely (Within most) = ⊥

abbrev pub IsUnbounded : Room → Type 0
IsUnbounded room = GrowsFreely room.growth

-- a store takes so much weight
abbrev pub Allows : Growth → (weight : ℕ) → Type 0
Allows Free n = Unit {0}
Allows Never n = Unit {0}
Allows (Within most) n = n ≤ most

abbrev pub TakesWeight : Room → (weight : ℕ) → Type 0
TakesWeight room n = Allows room.growth n

-- or it doesn't
abbrev pub Forbids : Growth → (weight : ℕ) → Type 0
Forbids Free n = ⊥
Forbids Never n = ⊥
Forbids (Within most) n = most < n

abbrev pub RejectsWeight : Room → (weight : ℕ) → Type 0
RejectsWeight room n = Forbids room.growth n

-- what is stored weighs no more than the store takes
abbrev pub IsLight : Held → Type 0
IsLight h = TakesWeight h.room (weight (marks_of h.slots))

-- vectors of this capacity hold all that weighs at most so much
abbrev pub Covers : (most : ℕ) → (capacity : Marks) → Type 0
Covers most capacity = (lengths : Marks) → weight lengths ≤ most →
    (vector : Vector) → of_vector vector lengths ≤ of_vector vector capacity
