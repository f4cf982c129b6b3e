-- The frames that a store holds, and those that don't fit in it.
use Rattle.std.specs.Prelude.{◌≡◌, ℕ, ◌+◌, ◌<◌, ◌≤◌, Option, length}
use Rattle.pickle_meaning.specs.Values.{Label, Value, pushed}
use Rattle.value_store.specs.Closed.{closed, placed}
use Rattle.value_store.specs.Exceeding.{Exceeds}
use Rattle.value_store.specs.Names.{Names}
use Rattle.value_store.specs.Takes.{Vector, of_vector}
use Rattle.value_store.specs.Slots.{Slots, Held, levels, marks_of}

-- these slots take more of some vector than its capacity
abbrev pub LacksRoom : Held → Slots → Type 0
LacksRoom h s = (vector : Vector)
    × ((h.room.least ≤ of_vector vector h.capacity) × (of_vector vector h.capacity < of_vector vector (marks_of s)))

-- `count` more bytes take more than the capacity for bytes
abbrev pub LacksBytes : Held → (count : ℕ) → Type 0
LacksBytes h count = (h.room.least ≤ h.capacity.bytes) × (h.capacity.bytes < length h.slots.bytes + count)

-- a value, or an absent field, is one more part of the innermost open value
abbrev pub IsPushed : (before after : Held) → Option Value → Type 0
IsPushed before after v = (names : Names) → levels names after ≡ pushed (levels names before) v

-- that part doesn't fit in the slots that the store was made with
abbrev pub CannotPush : Held → Option Value → Type 0
CannotPush before v = (names : Names) → Exceeds before.room (pushed (levels names before) v)

-- the parts of the innermost open value became one value, which takes their place
abbrev pub IsPlaced : (before after : Held) → (Names → Label) → (start end : ℕ) → Type 0
IsPlaced before after label start end =
    (names : Names) → levels names after ≡ placed (label names) start end (levels names before)

-- the innermost open value is closed
abbrev pub IsClosed : (before after : Held) → (Names → Label) → (start end : ℕ) → Type 0
IsClosed before after label start end =
    (names : Names) → levels names after ≡ closed (label names) start end (levels names before)

-- nor does the closed value
abbrev pub CannotClose : Held → (Names → Label) → (start end : ℕ) → Type 0
CannotClose before label start end =
    (names : Names) → Exceeds before.room (closed (label names) start end (levels names before))
