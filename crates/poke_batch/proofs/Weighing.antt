-- A store for so many bytes has capacity for all that weighs no more.
use Rattle.std.proofs.Common.{ℕ, zero, suc, ◌+◌, ◌-◌, ◌≤◌, Bool, true, false, List, nat_eq, arith}
use Rattle.std.specs.Prelude.{if◌then◌else◌}
use Rattle.mapping_plans.specs.Kept.{KeepsBy}
use Rattle.mapping_plans.specs.Plan.{Plan, Ended, Tick, Made, Read}
use Rattle.pickle_map.proofs.Weighed.{AreLight, moved_light, none_light}
use Rattle.pickle_map.specs.Follows.{AddsWeight}
use Rattle.pickle_map.specs.Weighed.{WeighsBy}
use Rattle.pickle_meaning.specs.Numbers.{number_at}
use Rattle.value_store.specs.declared.store.slots.Marks.{Marks}
use Rattle.value_store.specs.Moves.{Move, Opens, Drops, Clears, Places, Leaves, Closes, Writes, Ends, Packs, ClosesRow, OpensRecords, PacksRecord, ClosesRecords, PacksStruct, PacksValue, State, ValueSize, TemplateSize, IsWithin, moved, needed, with_first_value, with_next_value, with_first_drafted, no_state}
use Rattle.value_store.specs.Slots.{innermost, root_marks, weighing}
use Rattle.value_store.specs.Takes.{Vector, NodesOf, FamiliesOf, LinksOf, PendingOf, TextsOf, BytesOf, of_vector}
use Rattle.value_store.specs.Weights.{weight, Covers}

module _ (most : ℕ) (capacity : Marks) (covers : Covers most capacity) where
  -- what waits for its links weighs less than the nodes that it will be
  first_drafted : (template : TemplateSize) (stride : ℕ) (n : Marks) →
      weight (with_first_value template stride n) ≤ most → (vector : Vector) →
      of_vector vector (with_first_drafted template stride n) ≤ of_vector vector capacity
  first_drafted template stride n light NodesOf = covers (with_first_value template stride n) light NodesOf
  first_drafted template stride n light FamiliesOf = covers (with_first_value template stride n) light FamiliesOf
  first_drafted template stride n light LinksOf = covers (with_first_value template stride n) light LinksOf
  first_drafted template stride n light PendingOf =
      covers (record root_marks { pending = n.pending + template.nodes }) (omega (arith, light)) PendingOf
  first_drafted template stride n light TextsOf = covers (with_first_value template stride n) light TextsOf
  first_drafted template stride n light BytesOf = covers (with_first_value template stride n) light BytesOf

  next_drafted : (size : ValueSize) (stride : ℕ) (n : Marks) → weight n ≤ most →
      weight (with_next_value size stride n) ≤ most → (vector : Vector) →
      of_vector vector (record n { bytes = (n.bytes - size.bytes) + stride }) ≤ of_vector vector capacity
  next_drafted size stride n before light NodesOf = covers n before NodesOf
  next_drafted size stride n before light FamiliesOf = covers n before FamiliesOf
  next_drafted size stride n before light LinksOf = covers n before LinksOf
  next_drafted size stride n before light PendingOf = covers n before PendingOf
  next_drafted size stride n before light TextsOf = covers n before TextsOf
  next_drafted size stride n before light BytesOf = covers (with_next_value size stride n) light BytesOf

  drafted : (is_first : Bool) (size : ValueSize) (template : TemplateSize) (stride : ℕ) (n : Marks) →
      weight n ≤ most →
      weight (if is_first then with_first_value template stride n else with_next_value size stride n) ≤ most →
      (vector : Vector) →
      of_vector vector (if is_first then with_first_drafted template stride n
      else record n { bytes = (n.bytes - size.bytes) + stride })
      ≤ of_vector vector capacity
  drafted true size template stride n before light = first_drafted template stride n light
  drafted false size template stride n before light = next_drafted size stride n before light

  -- what a move needs on its way
  needs_within : (move : Move) (s : State) → AreLight (weighing most) s →
      (AddsWeight move s (moved true move s) → weight (moved true move s).now ≤ most) →
      IsWithin (needed true move s) capacity
  needs_within Opens s light adds =
      covers (moved true Opens s).now (moved_light (weighing most) true s light Opens adds).now
  needs_within Drops s light adds =
      covers (moved true Drops s).now (moved_light (weighing most) true s light Drops adds).now
  needs_within Clears s light adds =
      covers (moved true Clears s).now (moved_light (weighing most) true s light Clears adds).now
  needs_within Places s light adds =
      covers (moved true Places s).now (moved_light (weighing most) true s light Places adds).now
  needs_within Leaves s light adds =
      covers (moved true Leaves s).now (moved_light (weighing most) true s light Leaves adds).now
  needs_within Closes s light adds =
      covers (moved true Closes s).now (moved_light (weighing most) true s light Closes adds).now
  needs_within Writes s light adds =
      covers (moved true Writes s).now (moved_light (weighing most) true s light Writes adds).now
  needs_within Ends s light adds =
      covers (moved true Ends s).now (moved_light (weighing most) true s light Ends adds).now
  needs_within (Packs width) s light adds =
      covers (moved true (Packs width) s).now (moved_light (weighing most) true s light (Packs width) adds).now
  needs_within ClosesRow s light adds =
      covers (moved true ClosesRow s).now (moved_light (weighing most) true s light ClosesRow adds).now
  needs_within OpensRecords s light adds =
      covers (moved true OpensRecords s).now (moved_light (weighing most) true s light OpensRecords adds).now
  needs_within (PacksRecord count) s light adds =
      covers (moved true (PacksRecord count) s).now
      (moved_light (weighing most) true s light (PacksRecord count) adds).now
  needs_within ClosesRecords s light adds =
      covers (moved true ClosesRecords s).now (moved_light (weighing most) true s light ClosesRecords adds).now
  needs_within (PacksStruct stride) s light adds =
      covers (moved true (PacksStruct stride) s).now
      (moved_light (weighing most) true s light (PacksStruct stride) adds).now
  needs_within (PacksValue size template stride) s light adds =
      drafted (nat_eq s.now.pending ((innermost s.frames).pending + 1)) size template stride s.now light.now
      (moved_light (weighing most) true s light (PacksValue size template stride) adds).now

  keeps_light : {A : Type 0} (bits : List ℕ) (p : Plan A) (n : ℕ) (s : State) → AreLight (weighing most) s →
      WeighsBy (λ weight. weight ≤ most) true bits p n s → KeepsBy (λ state. IsWithin state capacity) true bits p n s
  keeps_light bits (Ended a) n s light weighs = tt
  keeps_light bits (Tick p) zero s light weighs = tt
  keeps_light bits (Tick p) (suc n) s light weighs = keeps_light bits p n s light weighs
  keeps_light bits (Made count move levels p) n s light weighs = (
    needs_within move s light weighs.0,
    keeps_light bits p n (moved true move s) (moved_light (weighing most) true s light move weighs.0) weighs.1,
  )
  keeps_light bits (Read place width order rest) n s light weighs =
      keeps_light bits (rest (number_at bits order place width)) n s light weighs

  -- from nothing on
  pub keeps_all : {A : Type 0} (bits : List ℕ) (p : Plan A) (n : ℕ) →
      WeighsBy (λ weight. weight ≤ most) true bits p n no_state →
      KeepsBy (λ state. IsWithin state capacity) true bits p n no_state
  keeps_all bits p n weighs = keeps_light bits p n no_state (none_light (weighing most)) weighs
