-- What each call of a mapping leaves as it was, what may only rise, and what it means to have followed a plan.
use Rattle.std.specs.Prelude.{◌≡◌, ◌≢◌, ℕ, ◌+◌, ◌*◌, ◌<◌, ◌≤◌, List, Option, Some, Result, Ok, Err, IfErr, OnErr, OnOk}
use Rattle.bit_space.specs.declared.meter.Meter.{Meter}
use Rattle.bit_space.specs.declared.number.BitFault.{BitFault}
use Rattle.bit_space.specs.declared.number.BitFault.TheVariants as refused
use Rattle.bit_space.specs.Reading.{IsRefused}
use Rattle.bit_space.specs.SpaceView.{SpaceView, known_bits, HasRisen}
use Rattle.pickle_types.specs.declared.node.Node.{Node}
use Rattle.pickle_meaning.specs.declared.faults.MapFaultKind.TheVariants.{End}
use Rattle.pickle_map.specs.declared.mapper.stop.Stop.{Stop}
use Rattle.pickle_map.specs.declared.mapper.stop.Stop.TheVariants.{Fault, Limit, Device, Memory}
use Rattle.pickle_meaning.specs.Values.{Value, end_of, Levels, pushed, outer_of}
use Rattle.pickle_meaning.specs.Clauses.{FaultAt}
use Rattle.mapping_plans.specs.Plan.{Plan}
use Rattle.pickle_map.specs.Follows.{World, Finish, Done, Follows}
use Rattle.pickle_map.specs.Stops.{stop_finish}
use Rattle.value_store.specs.Below.{Extends}
use Rattle.value_store.specs.Moves.{State, Moves, Drops, state_of}
use Rattle.value_store.specs.Slots.{Held, HoldsInRoom, KeepsRoom, levels, level_count, around, cut_to, innermost, marks_of}

-- What every call leaves, whatever its result: the meter's limit, the store's capacity, which may only rise, and the
-- bytes of the space. A count of failures never falls. A call makes no more values than it takes steps, counting the
-- steps taken before it for which no value is made yet. Where a device stopped it, the space has failed.
pub record Frame {A : Type 0} (space space' : SpaceView) (meter meter' : Meter) (store store' : Held) (ahead : ℕ)
    (result : Result A Stop) : Type 0 where
  pub limit : meter'.limit ≡ meter.limit
  pub len : space'.len ≡ space.len
  pub bytes : space'.bytes ≡ space.bytes
  pub failures : space.failures ≤ space'.failures
  pub room : KeepsRoom store store'
  pub made : meter'.made + meter.steps ≤ meter.made + meter'.steps + ahead
  pub device : IfErr result (λ stop. stop ≡ Device → HasRisen space.failures space'.failures)

-- the same for a call that reads nothing, which no device stops
pub record WorkFrame {A : Type 0} (meter meter' : Meter) (store store' : Held) (ahead : ℕ)
    (result : Result A Stop) : Type 0 where
  pub limit : meter'.limit ≡ meter.limit
  pub room : KeepsRoom store store'
  pub made : meter'.made + meter.steps ≤ meter.made + meter'.steps + ahead
  pub device : IfErr result (λ stop. stop ≢ Device)

-- the result so far of a call that nothing has stopped
abbrev pub under_way : Result (Unit {0}) Stop
under_way = Ok tt

-- what was mapped from the bit `start` on ends in the space
abbrev pub IsEnd : (start : ℕ) → SpaceView → (end : ℕ) → Type 0
IsEnd start space end = (start ≤ end) × (end ≤ 8 * space.len)

-- what was stored when the innermost frame was opened is still there after a call
abbrev pub KeepsOpened : (store store' : Held) → Type 0
KeepsOpened store store' =
    (opened : Held) → innermost store.frames ≡ marks_of opened.slots → Extends opened store → Extends opened store'

-- a call adds to the innermost frame, after all that was stored, or stops and leaves the frames and slots as they were
pub record AddsToLevel {A : Type 0} (nodes : List Node) (store store' : Held) (result : Result A Stop) : Type 0 where
  pub same : OnErr result (levels nodes store' ≡ levels nodes store)
  pub depth : level_count store' ≡ level_count store
  pub frames : store'.frames ≡ store.frames
  pub extends : Extends store store'
  pub back : OnErr result (store'.slots ≡ store.slots)
  pub within : OnOk result (HoldsInRoom store')

-- a call leaves the frames around the innermost one as they were
pub record LevelStays (nodes : List Node) (store store' : Held) : Type 0 where
  pub outer : outer_of (levels nodes store') ≡ outer_of (levels nodes store)
  pub depth : level_count store' ≡ level_count store
  pub frames : store'.frames ≡ store.frames
  pub opened : KeepsOpened store store'

-- a call closes the innermost frame
pub record ClosesLevel (store store' : Held) : Type 0 where
  pub depth : level_count store' + 1 ≡ level_count store
  pub frames : store'.frames ≡ around store.frames
  pub opened : KeepsOpened store store'
  pub within : HoldsInRoom store'

-- a call closes the innermost frame, or stops in it
abbrev pub LeavesLevel : {A : Type 0} → List Node → (store store' : Held) → Result A Stop → Type 0
LeavesLevel nodes store store' (Ok x) = ClosesLevel store store'
LeavesLevel nodes store store' (Err stop) = LevelStays nodes store store'

-- a frame was rolled back
pub record DropsLevel (store store' : Held) : Type 0 where
  pub levels : (nodes : List Node) → levels nodes store' ≡ outer_of (levels nodes store)
  pub depth : level_count store' + 1 ≡ level_count store
  pub slots : store'.slots ≡ cut_to (innermost store.frames) store.slots
  pub moves : Moves store store' Drops
  pub within : HoldsInRoom store'

-- a frame in which a call stopped was rolled back; otherwise the store is as it was
abbrev pub DropsStopped : {A : Type 0} → (store store' : Held) → Result A Stop → Type 0
DropsStopped store store' (Ok x) = store' ≡ store
DropsStopped store store' (Err stop) = DropsLevel store store'

-- the world of a call over a file's bits, where they are known, between two states of a store
abbrev pub world_between : Option (List ℕ) → (store store' : Held) → World
world_between known store store' =
    record { known = known; room = store.room; before = store.capacity; filled = store'.capacity }

-- the world of a call over a space
abbrev pub world_of : SpaceView → (store store' : Held) → World
world_of space store store' = world_between (known_bits space) store store'

-- a call that stored one more value in these frames, which ends at `end`, and followed the plan to it
pub record KeepsOne (world : World) (limit : ℕ) (p : Plan (Result Value FaultAt)) (k j : ℕ) (state : State) (k' j' : ℕ)
    (state' : State) (levels levels' : Levels) (end : ℕ) : Type 0 where
  pub value : Value
  pub kept : levels' ≡ pushed levels (Some value)
  pub ends : end_of value ≡ end
  pub follows : Follows world limit p k j state k' j' state' (Done (Ok value))

-- a call that stored one more value in that way, ending where `ends` says for its result, or stopped
abbrev pub KeepsOrStops : {A : Type 0} → World → (limit : ℕ) → Plan (Result Value FaultAt) → (k j : ℕ) → State →
    (k' j' : ℕ) → State → (levels levels' : Levels) → (ends : A → ℕ) → Result A Stop → Type 0
KeepsOrStops world limit p k j state k' j' state' levels levels' ends (Ok x) =
    KeepsOne world limit p k j state k' j' state' levels levels' (ends x)
KeepsOrStops world limit p k j state k' j' state' levels levels' ends (Err stop) =
    Follows world limit p k j state k' j' state' (stop_finish stop)

-- what a call did between two states of the meter and of a store, by a plan
abbrev pub Runs : {A : Type 0} → SpaceView → (meter meter' : Meter) → (store store' : Held) → Plan A → Finish A → Type 0
Runs space meter meter' store store' p finish = Follows (world_of space store store') meter.limit p meter.steps
    meter.made (state_of store) meter'.steps meter'.made (state_of store') finish

-- what a call did that read nothing
abbrev pub Works : {A : Type 0} → (meter meter' : Meter) → (store store' : Held) → Plan A → Finish A → Type 0
Works meter meter' store store' p finish = (known : Option (List ℕ)) →
    Follows (world_between known store store') meter.limit p meter.steps meter.made (state_of store) meter'.steps
    meter'.made (state_of store') finish

-- the stop of a refused read, with its fault at `place`
abbrev pub refusal_at : BitFault → (place : ℕ) → Stop
refusal_at refused.End place = Fault End place
refusal_at refused.Device place = Device
refusal_at refused.Limit place = Limit

-- why a read of the bits from `start` up to `end` stopped
abbrev pub ReadStops : Stop → (start end : ℕ) → (before after : SpaceView) → (limit steps steps' : ℕ) → Type 0
ReadStops (Fault kind place) start end before after limit steps steps' =
    (kind ≡ End) × (place ≡ start) × (steps' ≡ steps + 1) × (8 * before.len < end)
ReadStops Limit start end before after limit steps steps' = (steps ≡ limit) × (steps' ≡ steps)
ReadStops Device start end before after limit steps steps' =
    (steps' ≡ steps + 1) × (end ≤ 8 * before.len) × HasRisen before.failures after.failures
ReadStops Memory start end before after limit steps steps' = ⊥

-- the same, and why the read itself was refused, between two states of the meter
abbrev pub StopsReading : (start end : ℕ) → (before after : SpaceView) → (meter meter' : Meter) → Stop → Type 0
StopsReading start end before after meter meter' stop =
    ReadStops stop start end before after meter.limit meter.steps meter'.steps

abbrev pub RefusesReading : (end : ℕ) → (before after : SpaceView) → (meter meter' : Meter) → BitFault → Type 0
RefusesReading end before after meter meter' fault =
    IsRefused fault end before after meter.limit meter.steps meter'.steps
