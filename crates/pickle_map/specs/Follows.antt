-- What it means that a call follows a plan.
use Rattle.std.specs.Prelude.{◌≡◌, ◌⊎◌, ℕ, ◌+◌, ◌<◌, List, Option}
use Rattle.bit_space.specs.declared.order.Order.{Order}
use Rattle.bit_space.specs.Reading.{MayRead}
use Rattle.value_store.specs.declared.store.room.Room.{Room}
use Rattle.pickle_meaning.specs.Values.{Levels}
use Rattle.value_store.specs.declared.store.slots.Marks.{Marks}
use Rattle.value_store.specs.Exceeding.{Exceeds}
use Rattle.value_store.specs.Moves.{Move, Opens, Drops, Clears, Places, Leaves, Closes, Writes, Ends, Packs, ClosesRow, OpensRecords, PacksRecord, ClosesRecords, PacksStruct, PacksValue, State, IsWithin, moved, needed}
use Rattle.value_store.specs.Slots.{packs}
use Rattle.value_store.specs.Takes.{Vector, of_vector}
use Rattle.value_store.specs.Weights.{TakesWeight, RejectsWeight, weight}
use Rattle.mapping_plans.specs.Plan.{Plan, Ended, Tick, Made, Read}

-- the bits of the file, where they are known, the slots that the store was made with, and its capacity before a call
-- and after it
pub record World : Type 0 where
  pub known : Option (List ℕ)
  pub room : Room
  pub before : Marks
  pub filled : Marks

-- in the end the store has capacity for vectors of these lengths
abbrev pub HasRoom : World → State → Type 0
HasRoom world state = IsWithin state world.filled

-- what comes of a store by a move
abbrev pub after_move : World → Move → State → State
after_move world move state = moved (packs world.room) move state

-- the most that it needs on its way
abbrev pub during_move : World → Move → State → State
during_move world move state = needed (packs world.room) move state

-- a move that takes something of a vector, and so may not fit
abbrev pub TakesMore : Move → Type 0
TakesMore Opens = ⊥
TakesMore Drops = ⊥
TakesMore Clears = ⊥
TakesMore Places = Unit {0}
TakesMore Leaves = Unit {0}
TakesMore Closes = Unit {0}
TakesMore Writes = Unit {0}
TakesMore Ends = Unit {0}
TakesMore (Packs width) = Unit {0}
TakesMore ClosesRow = Unit {0}
TakesMore OpensRecords = Unit {0}
TakesMore (PacksRecord count) = Unit {0}
TakesMore ClosesRecords = ⊥
TakesMore (PacksStruct stride) = Unit {0}
TakesMore (PacksValue size template stride) = Unit {0}

-- a move that takes more leaves more weight
abbrev pub AddsWeight : Move → (before after : State) → Type 0
AddsWeight move before after = TakesMore move × (weight before.now < weight after.now)

-- what is stored on the way has capacity in the end, and the store takes the weight that the move leaves, if it is more
pub record HoldsMove (world : World) (move : Move) (state : State) : Type 0 where
  pub room : HasRoom world (during_move world move state)
  pub light : AddsWeight move state (after_move world move state) →
      TakesWeight world.room (weight (after_move world move state).now)

-- the move was made
pub record MovesTo (world : World) (move : Move) (state state' : State) : Type 0 where
  pub is : state' ≡ after_move world move state
  pub has : HoldsMove world move state

-- a vector has no capacity for what is stored on the way, or what the move leaves weighs more than the store takes
abbrev pub RefusesMove : World → Move → State → Type 0
RefusesMove world move state =
    ((vector : Vector) × (of_vector vector world.before < of_vector vector (during_move world move state).now))
    ⊎ RejectsWeight world.room (weight (after_move world move state).now)

-- A move to such frames didn't fit: neither in the slots that the store was made with, nor in what it has or takes.
pub record LacksRoom (world : World) (state : State) (move : Move) (levels : Levels) : Type 0 where
  pub takes : TakesMore move
  pub least : Exceeds world.room levels
  pub before : RefusesMove world move state

-- a walk along a plan, after k steps with j values made in a store of that state, to its rest, after k' steps with j'
-- values made in a store of the state `last`; all that was stored fitted
pub data Walk (world : World) {A : Type 0} (rest : Plan A) (k' j' : ℕ) (last : State) : Plan A → ℕ → ℕ →
    State → Type 0 where
  arrived : Walk world rest k' j' last rest k' j' last
  stepped : {p : Plan A} {k j : ℕ} {state : State} → Walk world rest k' j' last p (k + 1) j state →
      Walk world rest k' j' last (Tick p) k j state
  kept : {count : ℕ} {move : Move} {levels : Levels} {p : Plan A} {k j : ℕ} {state : State} →
      HoldsMove world move state →
      Walk world rest k' j' last p k (j + count) (after_move world move state) →
      Walk world rest k' j' last (Made count move levels p) k j state
  read : {place width : ℕ} {order : Order} {ps : ℕ → Plan A} {k j : ℕ} {state : State} (n : ℕ) →
      MayRead world.known order place width n → Walk world rest k' j' last (ps n) k j state →
      Walk world rest k' j' last (Read place width order ps) k j state

-- how a call ends: with the plan's result, without a step left, by a device, or by an allocation failure; and the state
-- of a loop
pub data Finish (A : Type 0) : Type 0 where
  Done : (result : A) → Finish A
  NoSteps : Finish A
  Broken : Finish A
  NoRoom : Finish A
  Partly : (rest : Plan A) → Finish A

-- a step comes next
abbrev pub NeedsStep : {A : Type 0} → Plan A → Type 0
NeedsStep (Ended a) = ⊥
NeedsStep (Tick p) = Unit {0}
NeedsStep (Made count move levels p) = ⊥
NeedsStep (Read place width order rest) = ⊥

-- a read comes next
abbrev pub NeedsRead : {A : Type 0} → Plan A → Type 0
NeedsRead (Ended a) = ⊥
NeedsRead (Tick p) = ⊥
NeedsRead (Made count move levels p) = ⊥
NeedsRead (Read place width order rest) = Unit {0}

-- the next thing to store doesn't fit
abbrev pub NeedsRoom : {A : Type 0} → World → State → Plan A → Type 0
NeedsRoom world state (Ended a) = ⊥
NeedsRoom world state (Tick p) = ⊥
NeedsRoom world state (Made count move levels p) = LacksRoom world state move levels
NeedsRoom world state (Read place width order rest) = ⊥

-- What is left of the plan at such an end, which the walk reached in a store of the state `at`. A call that is broken
-- off gives up what it had stored, so nothing is said of the state that it leaves.
abbrev pub EndsAs : {A : Type 0} → World → Finish A → Plan A → (at now : State) → (limit steps : ℕ) → Type 0
EndsAs world (Done a) rest at now limit k = (rest ≡ Ended a) × (at ≡ now)
EndsAs world NoSteps rest at now limit k = NeedsStep rest × (k ≡ limit)
EndsAs world Broken rest at now limit k = NeedsRead rest
EndsAs world NoRoom rest at now limit k = NeedsRoom world at rest
EndsAs world (Partly q) rest at now limit k = (rest ≡ q) × (at ≡ now)

-- a call that began after k steps with j values made in a store of that state, and ended after k' steps with j' made,
-- followed the plan
pub record Follows (world : World) (limit : ℕ) {A : Type 0} (p : Plan A) (k j : ℕ) (state : State) (k' j' : ℕ)
    (state' : State) (finish : Finish A) : Type 0 where
  pub rest : Plan A
  pub at : State
  pub walk : Walk world rest k' j' at p k j state
  pub ends : EndsAs world finish rest at state' limit k'
