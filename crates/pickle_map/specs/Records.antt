-- Arrays of structs of numbers that a store packs, while they are mapped.
use Rattle.std.specs.Prelude.{◌≡◌, ◌⊎◌, ◌≢◌, ℕ, ◌+◌, ◌*◌, ◌<◌, ◌≤◌, ◌^◌, length, List, [], ◌∷◌, ◌++◌, true, false, nat_eq, if◌then◌else◌, Result, Ok, Err}
use Rattle.bit_space.specs.declared.memory.Memory.{Memory as OutOfMemory}
use Rattle.bit_space.specs.declared.meter.Meter.{Meter}
use Rattle.bit_space.specs.declared.order.Order.{Order}
use Rattle.bit_space.specs.SpaceView.{SpaceView}
use Rattle.pickle_types.specs.declared.node.Field.{Field}
use Rattle.pickle_types.specs.declared.node.Node.{Node}
use Rattle.pickle_types.specs.Table.{type_of, open_fields}
use Rattle.pickle_meaning.specs.Clauses.{FaultAt}
use Rattle.pickle_meaning.specs.Means.{Opened, field_names, struct_value}
use Rattle.pickle_meaning.specs.Values.{Naming, Value, Levels, opened}
use Rattle.value_store.specs.declared.store.slots.Shape.{Shape}
use Rattle.value_store.specs.Moves.{PacksStruct, State, packed_struct, state_of, with_structs}
use Rattle.value_store.specs.Names.{title_at}
use Rattle.value_store.specs.PackedStructs.{AreDigits, IsDrafting, IsPackingStructs, struct_bits, struct_bytes, struct_of, struct_row, structs_of}
use Rattle.value_store.specs.Weights.{RejectsWeight, weight}
use Rattle.value_store.specs.Slots.{Held, HoldsInRoom, Regrown, innermost, levels, marks_of}
use Rattle.value_store.specs.Takes.{Vector, of_vector}
use Rattle.mapping_plans.specs.Mapping.{from_inside, closes, fields_plan}
use Rattle.mapping_plans.specs.Plan.{Plan, Tick, then_ok, framed}
use Rattle.pickle_map.specs.declared.mapper.stop.Stop.{Stop}
use Rattle.pickle_map.specs.declared.mapper.stop.Stop.TheVariants.{Memory}
use Rattle.pickle_map.specs.Calls.{Planned}
use Rattle.pickle_map.specs.Columns.{with_columns, shapes_of}
use Rattle.pickle_map.specs.Follows.{Done}
use Rattle.pickle_map.specs.Framed.{Runs}
use Rattle.pickle_map.specs.Stops.{stop_finish}

-- nothing was stored since the innermost value was opened
abbrev pub IsOpened : Held → Type 0
IsOpened h = innermost h.frames ≡ marks_of h.slots

-- the innermost frame is that of an array, which has just these structs
pub data HasStructs (nodes : List Node) (h : Held) (at : ℕ) (cs : List Shape) (start : ℕ) (outer : Levels) :
    List (List ℕ) → Type 0 where
  no_structs : levels nodes h ≡ [] ∷ outer → IsOpened h → HasStructs nodes h at cs start outer []
  some_structs : {rows : List (List ℕ)} → 0 < length rows → IsPackingStructs nodes h at cs start rows outer →
      HasStructs nodes h at cs start outer rows

-- the next struct of the array begins at the bit `start`
pub record IsAmong (nodes : List Node) (h : Held) (at : ℕ) (cs : List Shape) (start : ℕ) : Type 0 where
  pub first : ℕ
  pub rows : List (List ℕ)
  pub outer : Levels
  pub has : HasStructs nodes h at cs first outer rows
  pub begins : start ≡ first + struct_bits cs * length rows

-- the array may have one more struct, of these bytes
pub record TakesRow (nodes : List Node) (h : Held) (at : ℕ) (cs : List Shape) (start end : ℕ)
    (row : List ℕ) : Type 0 where
  pub among : IsAmong nodes h at cs start
  pub digits : List ℕ
  pub are : AreDigits cs digits
  pub is : row ≡ struct_row cs digits
  pub ends : end ≡ start + struct_bits cs
  pub short : end < 2 ^ 64

-- the array of the structs is open, with those that it had
abbrev pub OpensArray : List Node → (before after : Held) → (at : ℕ) → List Shape → (start : ℕ) → Type 0
OpensArray nodes before after at cs start =
    (first : ℕ) (rows : List (List ℕ)) (outer : Levels) → HasStructs nodes before at cs first outer rows →
    start ≡ first + struct_bits cs * length rows → IsPackingStructs nodes after at cs first rows outer

-- the array has a struct of these numbers after those that it had
abbrev pub AddsStruct : List Node → (before after : Held) → (at : ℕ) → List Shape → (start : ℕ) →
    (digits : List ℕ) → Type 0
AddsStruct nodes before after at cs start digits =
    (first : ℕ) (rows : List (List ℕ)) (outer : Levels) → HasStructs nodes before at cs first outer rows →
    start ≡ first + struct_bits cs * length rows → IsPackingStructs nodes after at cs first (rows ++ digits ∷ []) outer

-- the same, by the bytes
abbrev pub AddsRow : List Node → (before after : Held) → (at : ℕ) → List Shape → (start : ℕ) → (row : List ℕ) → Type 0
AddsRow nodes before after at cs start row =
    (digits : List ℕ) → AreDigits cs digits → row ≡ struct_row cs digits →
    AddsStruct nodes before after at cs start digits

-- numbers became the template of an array of packed structs
abbrev pub Drafts : List Node → (before after : Held) → List Shape → (start : ℕ) → Type 0
Drafts nodes before after cs start =
    (size : ℕ) (outer : Levels) → IsDrafting nodes before size [] start outer → struct_bits cs ≤ size →
    IsDrafting nodes after size cs start outer

-- so many numbers in a frame of their own
abbrev pub in_frame : (count : ℕ) → State → State
in_frame count s = record { now = with_columns count s.now; frames = s.now ∷ s.frames }

-- the innermost frame has a template of so many numbers and an array of packed structs; without these it gets them
abbrev pub array_state : (count : ℕ) → State → State
array_state count s = record {
  now = if nat_eq s.now.nodes (innermost s.frames).nodes then with_structs count 0 (innermost s.frames) else s.now;
  frames = s.frames;
}

-- the array has one more struct of so many numbers and bytes
abbrev pub packed_state : (count stride : ℕ) → State → State
packed_state count stride s = packed_struct true stride (in_frame count s)

-- the state of a store is more than its capacity before, or weighs more than it takes
abbrev pub PassesRoom : Held → State → Type 0
PassesRoom before state = ((vector : Vector) × (of_vector vector before.capacity < of_vector vector state.now))
    ⊎ RejectsWeight before.room (weight state.now)

-- a call brought the store to a state, or that passes its room
abbrev pub ComesTo : (before after : Held) → State → Result (Unit {0}) OutOfMemory → Type 0
ComesTo before after state (Ok u) = (state_of after ≡ state) × HoldsInRoom after
ComesTo before after state (Err e) = PassesRoom before state

-- to that of an open array, and of one that has a struct more
abbrev pub OpensTo : (before after : Held) → (count : ℕ) → Result (Unit {0}) OutOfMemory → Type 0
OpensTo before after count result = ComesTo before after (array_state count (state_of before)) result

abbrev pub PacksTo : (before after : Held) → (count stride : ℕ) → Result (Unit {0}) OutOfMemory → Type 0
PacksTo before after count stride result = ComesTo before after (packed_state count stride (state_of before)) result

-- a struct whose numbers are packed
abbrev pub struct_packs : (stride : ℕ) → Naming → List Naming → (s : ℕ) → Opened → Plan (Result Value FaultAt)
struct_packs stride name names s r = closes (PacksStruct stride) (struct_value name names s r.1) r.0

-- its fields in a frame of its own, after its first step
abbrev pub as_packed : (at : ℕ) → List Field → Order → (start : ℕ) → Planned Value
as_packed at fields order start = λ nodes m levels.
    framed levels
    (then_ok (fields_plan m false start (open_fields (type_of nodes) fields) order (opened levels) start start)
    (struct_packs (struct_bytes (shapes_of (type_of nodes) fields)) (title_at nodes at)
    (field_names (open_fields (type_of nodes) fields)) start))

abbrev pub as_record : (at : ℕ) → List Field → Order → (start : ℕ) → Planned Value
as_record at fields order start =
    λ nodes m levels. from_inside m start (Tick (as_packed at fields order start nodes m levels))

module _ (nodes : List Node) (space : SpaceView) (meter meter' : Meter) (store store' : Held) (at : ℕ)
    (cs : List Shape) where
  -- a struct was packed after those that the array had, by a plan
  pub record PacksOne (start : ℕ) (p : Plan (Result Value FaultAt)) (end : ℕ) : Type 0 where
    pub digits : List ℕ
    pub adds : AddsStruct nodes store store' at cs start digits
    pub ends : end ≡ start + struct_bits cs
    pub runs : Runs space meter meter' store store' p (Done (Ok (struct_of nodes at cs start digits)))

  -- or the call stopped, and left those, if there was memory
  abbrev pub PacksOrStops : (start : ℕ) → Plan (Result Value FaultAt) → Result ℕ Stop → Type 0
  PacksOrStops start p (Ok end) = PacksOne start p end
  PacksOrStops start p (Err stop) =
      Runs space meter meter' store store' p (stop_finish stop) × (stop ≢ Memory → Regrown store store')

  -- all structs of an array were packed, by the plan of its elements
  pub record PacksAll (start : ℕ) (outer : Levels) (p : Plan (Result Opened FaultAt)) (end : ℕ) : Type 0 where
    pub rows : List (List ℕ)
    pub has : HasStructs nodes store' at cs start outer rows
    pub ends : end ≡ start + struct_bits cs * length rows
    pub runs : Runs space meter meter' store store' p (Done (Ok (structs_of nodes at cs start rows ∷ outer, end)))

  abbrev pub PacksAllOrStops : (start : ℕ) → (outer : Levels) → Plan (Result Opened FaultAt) → Result ℕ Stop → Type 0
  PacksAllOrStops start outer p (Ok end) = PacksAll start outer p end
  PacksAllOrStops start outer p (Err stop) = Runs space meter meter' store store' p (stop_finish stop)
