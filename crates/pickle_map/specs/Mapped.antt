-- What a mapping returns, and what the definitions say about it.
use Rattle.std.specs.Prelude.{◌≡◌, ℕ, ◌+◌, ◌-◌, ◌*◌, ◌<◌, ◌≤◌, List, Some, Result, Ok, Err, IfErr, OnOk, OnErr}
use Rattle.bit_space.specs.declared.meter.Meter.{Meter}
use Rattle.bit_space.specs.declared.order.Order.{Order}
use Rattle.bit_space.specs.Bits.{bits_of}
use Rattle.bit_space.specs.SpaceView.{SpaceView, known_bits, HasRisen}
use Rattle.pickle_types.specs.declared.node.Node.{Node}
use Rattle.pickle_types.specs.declared.table.Table.{Table}
use Rattle.pickle_types.specs.declared.table.TypeId.{TypeId}
use Rattle.pickle_types.specs.Bounds.{cost, room as room_of}
use Rattle.pickle_types.specs.Types.{PokeType}
use Rattle.pickle_types.specs.TypeTable.{nodes_of, type_named}
use Rattle.pickle_meaning.specs.declared.faults.MapFault.{MapFault}
use Rattle.pickle_meaning.specs.declared.faults.MapFaultKind.{MapFaultKind}
use Rattle.pickle_meaning.specs.declared.faults.MapFaultKind.TheVariants as faults
use Rattle.pickle_map.specs.declared.mapper.stop.Stop.{Stop}
use Rattle.pickle_map.specs.declared.mapper.stop.Stop.TheVariants.{Fault, Limit, Device, Memory}
use Rattle.pickle_meaning.specs.Answer.{Answer, BrokenOff}
use Rattle.pickle_meaning.specs.Clauses.{FaultAt}
use Rattle.pickle_meaning.specs.Fits.{Fits}
use Rattle.pickle_meaning.specs.Room.{Slot, NodeSlot, ByteSlot, value_slots, slots}
use Rattle.pickle_map.specs.Follows.{World, Finish, Done, NoSteps, Broken, NoRoom, Follows}
use Rattle.pickle_map.specs.Framed.{world_of}
use Rattle.mapping_plans.specs.Plan.{Plan}
use Rattle.mapping_plans.specs.Mapping.{plan}
use Rattle.mapping_plans.specs.Kept.{KeepsBy}
use Rattle.value_store.specs.declared.store.room.Growth.TheVariants.{Never}
use Rattle.value_store.specs.declared.store.room.Room.{Room}
use Rattle.value_store.specs.declared.store.slots.Marks.{Marks}
use Rattle.value_store.specs.Promises.{least_capacity, promised, promising}
use Rattle.value_store.specs.Slots.{Held, packs, emptied, HoldsInRoom, KeepsRoom, levels}
use Rattle.value_store.specs.Moves.{State, IsWithin, no_state, state_of}
use Rattle.value_store.specs.Weights.{IsUnbounded, TakesWeight}
use Rattle.pickle_map.specs.Weighed.{WeighsBy}
use Rattle.pickle_meaning.specs.Values.{Value, no_values, pushed}

-- a store that holds one value, with the names of a table, and a fact about that value
pub record Gives (nodes : List Node) (store : Held) (P : Value → Type 0) : Type 0 where
  pub value : Value
  pub keeps : levels nodes store ≡ pushed no_values (Some value)
  pub holds : P value

-- a stop, as the fault of a mapping that began at s; a fault that ends a run has s as its place
abbrev pub fault_of : Stop → (s : ℕ) → MapFault
fault_of (Fault kind place) s = record { kind = kind; at = place }
fault_of Limit s = record { kind = faults.Limit; at = s }
fault_of Device s = record { kind = faults.Device; at = s }
fault_of Memory s = record { kind = faults.Memory; at = s }

-- What a fault says on these bits: it is the answer under the limit of steps, with the answer's steps and values made.
-- Where a device or an allocation failure broke the mapping off, the steps and values made are at most the answer's.
abbrev pub FaultMeans : List ℕ → PokeType → Order → (s limit : ℕ) → MapFaultKind → (at steps made : ℕ) → Type 0
FaultMeans bits ty order s limit faults.Device at k j = BrokenOff bits ty order s limit k j
FaultMeans bits ty order s limit faults.Memory at k j = BrokenOff bits ty order s limit k j
FaultMeans bits ty order s limit kind at k j = Answer bits ty order s limit (Err (kind, at)) k j

-- how a plan is left with a fault: it ends with it, no step is left, a read failed, or something didn't fit
abbrev pub fault_finish : {A : Type 0} → MapFaultKind → (at : ℕ) → Finish (Result A FaultAt)
fault_finish faults.Limit at = NoSteps
fault_finish faults.Device at = Broken
fault_finish faults.Memory at = NoRoom
fault_finish kind at = Done (Err (kind, at))

-- The store of a mapping, until the mapping ends. Where it has capacity for the slots of the type's bound, it promises
-- all that it has capacity for, and so it packs no arrays.
abbrev pub prepared : PokeType → SpaceView → Held → Held
prepared type space store = promising (promised (room_of type (8 * space.len)) store) store

-- what a mapping into an empty store did by a plan, up to the state `last` of the store
abbrev pub RunsUpTo : {A : Type 0} → SpaceView → (meter meter' : Meter) → (store store' : Held) → (last : State) →
    Plan A → Finish A → Type 0
RunsUpTo space meter meter' store store' last p finish = Follows (world_of space store store') meter.limit p meter.steps
    meter.made no_state meter'.steps meter'.made last finish

-- whatever that state was: after a fault the store is cleared
pub record RunsTo {A : Type 0} (space : SpaceView) (meter meter' : Meter) (store store' : Held) (p : Plan A)
    (finish : Finish A) : Type 0 where
  pub last : State
  pub follows : RunsUpTo space meter meter' store store' last p finish

-- on these bytes, within the steps that are left: vectors of this capacity hold all that the mapping of a type stores
abbrev pub HasRoomFor : Room → (capacity : Marks) → PokeType → Order → (start : ℕ) → SpaceView → Meter →
    (bytes : List ℕ) → Type 0
HasRoomFor room capacity type order start space meter bytes =
    KeepsBy (λ state. IsWithin state capacity) (packs room) (bits_of bytes)
    (plan (8 * space.len) type order no_values start) (meter.limit - meter.steps) no_state

-- on these bytes, within the steps that are left: the store takes what the values of a type weigh
abbrev pub IsLightFor : Room → PokeType → Order → (start : ℕ) → SpaceView → Meter → (bytes : List ℕ) → Type 0
IsLightFor room type order start space meter bytes =
    WeighsBy (TakesWeight room) (packs room) (bits_of bytes)
    (plan (8 * space.len) type order no_values start) (meter.limit - meter.steps) no_state

-- a fact about a mapping that neither a device nor an allocation failure broke off
abbrev pub UnlessBreaks : MapFaultKind → Type 0 → Type 0
UnlessBreaks faults.Device P = Unit {0}
UnlessBreaks faults.Memory P = Unit {0}
UnlessBreaks kind P = P

abbrev pub UnlessBroken : Result (Unit {0}) MapFault → Type 0 → Type 0
UnlessBroken (Ok u) P = P
UnlessBroken (Err f) P = UnlessBreaks f.kind P

-- Where the bytes are known, and the mapping wasn't broken off: in the end the store has capacity for all that it
-- stores.
abbrev pub KeptInRoom : PokeType → Order → (start : ℕ) → SpaceView → Meter → (store store' : Held) →
    Result (Unit {0}) MapFault → Type 0
KeptInRoom type order start space meter store store' result =
    (bytes : List ℕ) → space.bytes ≡ Some bytes →
    UnlessBroken result
    (HasRoomFor (prepared type space store).room store'.capacity type order start space meter bytes)

-- Where they are known, and the mapping wasn't broken off: the store took what the values weigh.
abbrev pub KeptLight : PokeType → Order → (start : ℕ) → SpaceView → Meter → (store : Held) →
    Result (Unit {0}) MapFault → Type 0
KeptLight type order start space meter store result =
    (bytes : List ℕ) → space.bytes ≡ Some bytes →
    UnlessBroken result (IsLightFor (prepared type space store).room type order start space meter bytes)

-- Where they are known, and `Memory` was returned: before, the store lacked the capacity for all that the mapping
-- stores, or it doesn't take what that weighs.
abbrev pub WantedMore : PokeType → Order → (start : ℕ) → SpaceView → Meter → (store : Held) →
    Result (Unit {0}) MapFault → Type 0
WantedMore type order start space meter store result =
    (bytes : List ℕ) → space.bytes ≡ Some bytes →
    IfErr result
    (λ f. f.kind ≡ faults.Memory →
    HasRoomFor (prepared type space store).room store.capacity type order start space meter bytes →
    IsLightFor (prepared type space store).room type order start space meter bytes → ⊥)

-- faults that end a run, which no type means
abbrev pub EndsRun : MapFaultKind → Type 0
EndsRun faults.Limit = Unit {0}
EndsRun faults.Device = Unit {0}
EndsRun faults.Memory = Unit {0}
EndsRun kind = ⊥

module _ (type : PokeType) (order : Order) (start : ℕ) (space : SpaceView) (meter meter' : Meter) where
  -- where the bytes are known: the value that the type means there, in its steps and with its values made
  abbrev pub MeansValue : List Node → (store' : Held) → Result (Unit {0}) MapFault → Type 0
  MeansValue nodes store' result =
      (bytes : List ℕ) → space.bytes ≡ Some bytes →
      OnOk result (Gives nodes store' (λ v. Answer (bits_of bytes) type order start (meter.limit - meter.steps) (Ok v)
      (meter'.steps - meter.steps) (meter'.made - meter.made)))

  -- where they are known: the fault that the type means there, or Limit where that takes more steps than are left
  abbrev pub MeansFault : Result (Unit {0}) MapFault → Type 0
  MeansFault result =
      (bytes : List ℕ) → space.bytes ≡ Some bytes →
      IfErr result (λ f. FaultMeans (bits_of bytes) type order start (meter.limit - meter.steps) f.kind f.at
      (meter'.steps - meter.steps) (meter'.made - meter.made))

  -- Whatever the space gives: the mapping runs along its type's plan on the numbers that were read, to this value or
  -- fault. Its steps and values made are those of the run.
  abbrev pub RunsPlan : List Node → (store store' : Held) → Result (Unit {0}) MapFault → Type 0
  RunsPlan nodes store store' (Ok u) =
      Gives nodes store' (λ v. RunsUpTo space meter meter' (prepared type space store) store' (state_of store')
      (plan (8 * space.len) type order no_values start) (Done (Ok v)))
  RunsPlan nodes store store' (Err f) =
      RunsTo space meter meter' (prepared type space store) store'
      (plan (8 * space.len) type order no_values start) (fault_finish f.kind f.at)

module _ (nodes : List Node) (store' : Held) where
  -- a value fits its type by the stored parts
  abbrev pub FitsType : PokeType → (start : ℕ) → SpaceView → Result (Unit {0}) MapFault → Type 0
  FitsType type start space result = OnOk result (Gives nodes store' (λ v. Fits (8 * space.len) type no_values start v))

  -- each part was counted
  abbrev pub CountsParts : (meter meter' : Meter) → Result (Unit {0}) MapFault → Type 0
  CountsParts meter meter' result = OnOk result
      (Gives nodes store' (λ v. meter.made + (value_slots NodeSlot v + value_slots ByteSlot v) ≤ meter'.made))

  -- the most that a store holds which never grows
  abbrev pub HoldsAtMost : (store : Held) → Result (Unit {0}) MapFault → Type 0
  HoldsAtMost store result =
      OnOk result (store.room.growth ≡ Never → (kind : Slot) → slots kind (levels nodes store') ≤ store.room.least)

-- Limit is returned only where all steps were taken, which are fewer than the type's bound
abbrev pub ReachesLimit : PokeType → SpaceView → (meter meter' : Meter) → Result (Unit {0}) MapFault → Type 0
ReachesLimit type space meter meter' result =
    IfErr result (λ f. f.kind ≡ faults.Limit →
    (meter'.steps ≡ meter.limit) × (meter.limit < meter.steps + cost type (8 * space.len)))

-- `Memory` is returned only where some vector of the store had less capacity before than the type's bound, or the
-- store's weight is bounded
abbrev pub LacksBound : PokeType → SpaceView → (store : Held) → Result (Unit {0}) MapFault → Type 0
LacksBound type space store result =
    IfErr result
    (λ f. f.kind ≡ faults.Memory → IsUnbounded store.room →
    least_capacity store.capacity < room_of type (8 * space.len))

-- what a mapping of a type from the bit `start` on does, into an empty store
pub record IsMapped (nodes : List Node) (type : PokeType) (order : Order) (start : ℕ) (space space' : SpaceView)
    (meter meter' : Meter) (store store' : Held) (result : Result (Unit {0}) MapFault) : Type 0 where
  -- Where the bytes are known: the value that the type means there, in its steps and with its values made.
  pub value : MeansValue type order start space meter meter' nodes store' result
  -- Where they are known: the fault that the type means there, or Limit where that takes more steps than are left.
  pub fault : MeansFault type order start space meter meter' result
  -- Whatever the space gives: a value fits its type by the stored parts, and each part was counted.
  pub fits : FitsType nodes store' type start space result
  pub size : CountsParts nodes store' meter meter' result
  pub rise : meter.steps ≤ meter'.steps
  pub steps : meter'.steps ≤ meter.steps + cost type (8 * space.len)
  pub made : (meter.made ≤ meter'.made) × (meter'.made + meter.steps ≤ meter.made + meter'.steps)
  pub limit : ReachesLimit type space meter meter' result
  pub memory : LacksBound type space store result
  pub device : IfErr result (λ f. f.kind ≡ faults.Device → HasRisen space.failures space'.failures)
  -- Whatever the space gives: it runs along its type's plan on the numbers that were read, to this value or fault.
  pub counts : RunsPlan type order start space meter meter' nodes store store' result
  -- In the end there is capacity for all that was to be stored, and the store takes what it weighs. `Memory` is
  -- returned only where there was too little before, or where it weighs too much.
  pub kept : KeptInRoom type order start space meter store store' result
  pub weighed : KeptLight type order start space meter store result
  pub asked : WantedMore type order start space meter store result
  -- A fault that ends a run has the mapping's start as its place.
  pub place : IfErr result (λ f. EndsRun f.kind → f.at ≡ start)
  pub emptied : OnErr result (store' ≡ emptied store')
  -- Each vector of the store has at most as many entries as its capacity, which never gets less.
  pub holds : HoldsInRoom store'
  pub room : KeepsRoom store store'
  -- The most that a store holds which never grows.
  pub held : HoldsAtMost nodes store' store result
  pub most : meter'.limit ≡ meter.limit
  pub len : space'.len ≡ space.len
  pub bytes : space'.bytes ≡ space.bytes
  pub failures : space.failures ≤ space'.failures

-- a mapping of a type of a table runs along its plan
abbrev pub RunsNamed : Table → TypeId → Order → (start : ℕ) → SpaceView → (meter meter' : Meter) →
    (store store' : Held) → Result (Unit {0}) MapFault → Type 0
RunsNamed table id order start space meter meter' store store' result =
    RunsPlan (type_named table id) order start space meter meter' (nodes_of table) store store' result

-- a run along the plan of a type from the bit `start` on, under a limit, on numbers that were read of a space, whatever
-- they were: it comes to this fault
pub record RunsToFault (space : SpaceView) (type : PokeType) (order : Order) (start limit : ℕ) (kind : MapFaultKind)
    (at : ℕ) : Type 0 where
  pub world : World
  pub known : world.known ≡ known_bits space
  pub steps : ℕ
  pub made : ℕ
  pub state : State
  pub follows : Follows world limit (plan (8 * space.len) type order no_values start) 0 0 no_state steps made state
      (fault_finish kind at)

-- what a mapping of a type of a table does
abbrev pub MapsNamed : Table → TypeId → Order → (start : ℕ) → (space space' : SpaceView) → (meter meter' : Meter) →
    (store store' : Held) → Result (Unit {0}) MapFault → Type 0
MapsNamed table id order start space space' meter meter' store store' result =
    IsMapped (nodes_of table) (type_named table id) order start space space' meter meter' store store' result
