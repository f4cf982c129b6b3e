-- The laws of the capacity that a mapping of a type takes.
use Rattle.std.specs.Prelude.{◌≡◌, ◌⊎◌, ℕ, ◌*◌, ◌<◌, ◌≤◌, length, Bool, false, List, Result, Ok, IfErr, OnOk}
use Rattle.bit_space.specs.declared.meter.Meter.{Meter}
use Rattle.bit_space.specs.declared.order.Order.{Order}
use Rattle.bit_space.specs.SpaceView.{SpaceView}
use Rattle.pickle_types.specs.declared.table.Table.{Table}
use Rattle.pickle_types.specs.declared.table.TypeId.{TypeId}
use Rattle.pickle_types.specs.Types.{PokeType}
use Rattle.pickle_types.specs.Bounds.{room}
use Rattle.pickle_types.specs.TypeTable.{type_named}
use Rattle.pickle_meaning.specs.declared.faults.MapFault.{MapFault}
use Rattle.pickle_meaning.specs.declared.faults.MapFaultKind.TheVariants as faults
use Rattle.pickle_meaning.specs.Values.{Value, Levels}
use Rattle.pickle_meaning.specs.Means.{Means}
use Rattle.pickle_meaning.specs.Room.{Slot, value_slots}
use Rattle.pickle_map.specs.Mapped.{prepared, RunsNamed}
use Rattle.value_store.specs.Slots.{Held, packs, marks_of}
use Rattle.value_store.specs.declared.store.slots.Marks.{Marks}
use Rattle.value_store.specs.Takes.{Vector, NodesOf, FamiliesOf, LinksOf, PendingOf, TextsOf, BytesOf, of_vector, value_takes}
use Rattle.value_store.specs.Weights.{RejectsWeight, weight}
use Rattle.type_soundness.specs.Capacity.{capacity_bound, slot_takes}

-- the bounds of a type for each vector
abbrev pub bound_lengths : (packs : Bool) → PokeType → (m : ℕ) → Marks
bound_lengths packs type m = record {
  nodes = capacity_bound packs NodesOf type m;
  families = capacity_bound packs FamiliesOf type m;
  links = capacity_bound packs LinksOf type m;
  pending = capacity_bound packs PendingOf type m;
  texts = capacity_bound packs TextsOf type m;
  bytes = capacity_bound packs BytesOf type m;
}

-- where `map` returned `Memory`, some vector of the store had less capacity before than the type's bound, or these
-- bounds weigh more than the store takes
abbrev pub MemoryLacksCapacity : Type 0
MemoryLacksCapacity = (table : Table) (id : TypeId) (order : Order) (start : ℕ) (space : SpaceView)
    (meter meter' : Meter) (store store' : Held) (result : Result (Unit {0}) MapFault) →
    RunsNamed table id order start space meter meter' store store' result →
    IfErr result (λ f. f.kind ≡ faults.Memory → ((vector : Vector) × (of_vector vector store.capacity
    < capacity_bound (packs store.room) vector (type_named table id) (8 * space.len)))
    ⊎ RejectsWeight store.room (weight (bound_lengths (packs store.room) (type_named table id) (8 * space.len))))

-- Where `map` returned without a fault, each vector of the store has at most the type's bound, by whether the store
-- packs during the mapping.
abbrev pub StoresTakeBound : Type 0
StoresTakeBound = (table : Table) (id : TypeId) (order : Order) (start : ℕ) (space : SpaceView) (meter meter' : Meter)
    (store store' : Held) (result : Result (Unit {0}) MapFault) →
    RunsNamed table id order start space meter meter' store store' result →
    OnOk result ((vector : Vector) →
    of_vector vector (marks_of store'.slots)
    ≤ capacity_bound (packs (prepared (type_named table id) space store).room) vector (type_named table id)
    (8 * space.len))

-- the bound of a type of a table is at most what `room` slots take
abbrev pub BoundsAreSlots : Type 0
BoundsAreSlots = (table : Table) (id : TypeId) (packs : Bool) (vector : Vector) (m : ℕ) →
    capacity_bound packs vector (type_named table id) m ≤ slot_takes vector * room (type_named table id) m

-- a value that a type means takes of each vector at most the type's bound, where nothing is packed
abbrev pub ValuesTakeBound : Type 0
ValuesTakeBound = (bits : List ℕ) (type : PokeType) (order : Order) (levels : Levels) (s : ℕ) (v : Value) (k j : ℕ) →
    Means bits type order levels s (Ok v) k j →
    (vector : Vector) → value_takes false vector v ≤ capacity_bound false vector type (length bits)

-- a value that a type means fills at most `room` slots of each kind
abbrev pub ValuesFillRoom : Type 0
ValuesFillRoom = (bits : List ℕ) (type : PokeType) (order : Order) (levels : Levels) (s : ℕ) (v : Value) (k j : ℕ) →
    Means bits type order levels s (Ok v) k j →
    (kind : Slot) → value_slots kind v ≤ room type (length bits)
