-- What a walk along a plan leaves in a store weighs no more than the store takes.
use Rattle.std.proofs.Common.{◌≡◌, ℕ, zero, suc, ◌+◌, ◌-◌, ◌<◌, ◌≤◌, Bool, true, false, List, [], ◌∷◌, inl, inr, arith}
use Rattle.std.specs.Prelude.{nat_eq, if◌then◌else◌}
use Rattle.std.proofs.lemmas.Bool.{cases_lt}
use Rattle.pickle_meaning.specs.Numbers.{number_at}
use Rattle.value_store.specs.declared.store.room.Growth.{Growth}
use Rattle.value_store.specs.declared.store.room.Growth.TheVariants.{Free, Never, Within}
use Rattle.value_store.specs.declared.store.room.Room.{Room}
use Rattle.value_store.specs.declared.store.slots.Marks.{Marks}
use Rattle.value_store.specs.Moves.{Move, Opens, Drops, Clears, Places, Leaves, Closes, Writes, Ends, Packs, ClosesRow, OpensRecords, PacksRecord, ClosesRecords, PacksStruct, PacksValue, ValueSize, TemplateSize, State, IsWithin, with_first_value, with_next_value, with_first_drafted, moved, needed, no_state}
use Rattle.value_store.specs.Slots.{packs_as, packs, innermost, around, weighing}
use Rattle.value_store.specs.Takes.{Vector, NodesOf, FamiliesOf, LinksOf, PendingOf, TextsOf, BytesOf, of_vector}
use Rattle.value_store.specs.Weights.{weight, GrowsFreely, IsUnbounded, Allows, Forbids, TakesWeight, RejectsWeight, Covers}
use Rattle.mapping_plans.specs.Kept.{KeepsBy}
use Rattle.mapping_plans.specs.Plan.{Plan, Ended, Tick, Made, Read}
use Rattle.pickle_map.specs.Follows.{World, AddsWeight, TakesMore, Walk, arrived, stepped, kept, read}
use Rattle.pickle_map.specs.Weighed.{WeighsBy}

-- ---- weights

pub takes_less : (growth : Growth) (n m : ℕ) → n ≤ m → Allows growth m → Allows growth n
takes_less Free n m le h = tt
takes_less Never n m le h = tt
takes_less (Within most) n m le h = omega (arith, le, h)

pub rejects_more : (growth : Growth) (n m : ℕ) → n ≤ m → Forbids growth n → Forbids growth m
rejects_more Free n m le h = h
rejects_more Never n m le h = h
rejects_more (Within most) n m le h = omega (arith, le, h)

takes_rejects : (growth : Growth) (n m : ℕ) → Allows growth n → Forbids growth m → n < m
takes_rejects Free n m takes h = absurd h
takes_rejects Never n m takes h = absurd h
takes_rejects (Within most) n m takes h = omega (arith, takes, h)

not_both : (growth : Growth) (n : ℕ) → Allows growth n → Forbids growth n → ⊥
not_both growth n takes rejects = let lt = takes_rejects growth n n takes rejects in omega (arith, lt)

takes_free : (growth : Growth) → GrowsFreely growth → (n : ℕ) → Allows growth n
takes_free Free free n = tt
takes_free Never free n = tt
takes_free (Within most) free n = absurd free

takes_none : (growth : Growth) → Allows growth 0
takes_none Free = tt
takes_none Never = tt
takes_none (Within most) = omega arith

-- a store that packs nothing bounds no weight
apart_takes : (growth : Growth) (least n : ℕ) → packs_as growth least ≡ false → Allows growth n
apart_takes Free least n apart = tt
apart_takes Never least n apart = tt
apart_takes (Within most) least n apart = absurd cc

pub apart_light : (room : Room) (n : ℕ) → packs room ≡ false → TakesWeight room n
apart_light room n apart = apart_takes room.growth room.least n apart

-- a store whose weight isn't bounded takes all
pub free_light : {A : Type 0} (room : Room) → IsUnbounded room → (packing : Bool) (bits : List ℕ) (p : Plan A) (n : ℕ)
    (state : State) → WeighsBy (TakesWeight room) packing bits p n state
free_light room free packing bits (Ended a) n state = tt
free_light room free packing bits (Tick p) zero state = tt
free_light room free packing bits (Tick p) (suc n) state = free_light room free packing bits p n state
free_light room free packing bits (Made count move levels p) n state = (
  λ adds. takes_free room.growth free (weight (moved packing move state).now),
  free_light room free packing bits p n (moved packing move state),
)
free_light room free packing bits (Read place width order rest) n state =
    free_light room free packing bits (rest (number_at bits order place width)) n state

-- ---- states

abbrev pub AllLight : Room → List Marks → Type 0
AllLight room [] = Unit {0}
AllLight room (k ∷ ks) = TakesWeight room (weight k) × AllLight room ks

-- a store takes what is stored, and what was stored when each open value was opened
pub record AreLight (room : Room) (state : State) : Type 0 where
  pub now : TakesWeight room (weight state.now)
  pub frames : AllLight room state.frames

pub none_light : (room : Room) → AreLight room no_state
none_light room = record { now = takes_none room.growth; frames = tt }

innermost_light : (room : Room) (ks : List Marks) → AllLight room ks →
    TakesWeight room (weight (innermost ks))
innermost_light room [] all = takes_none room.growth
innermost_light room (k ∷ ks) all = all.0

around_light : (room : Room) (ks : List Marks) → AllLight room ks →
    AllLight room (around ks)
around_light room [] all = tt
around_light room (k ∷ ks) all = all.1

module _ (room : Room) (packing : Bool) (state : State) (are : AreLight room state) where
  -- a move that takes more
  adds_light : (move : Move) → TakesMore move → (after : State) →
      (AddsWeight move state after → TakesWeight room (weight after.now)) → TakesWeight room (weight after.now)
  adds_light move takes after light = elim (cases_lt (weight state.now) (weight after.now)) [
    | inl lt ↦ light (takes, lt)
    | inr le ↦ takes_less room.growth (weight after.now) (weight state.now) le are.now
  ]

  struct_frames : (packing : Bool) (stride : ℕ) →
      AllLight room (moved packing (PacksStruct stride) state).frames
  struct_frames true stride = around_light room state.frames are.frames
  struct_frames false stride = around_light room state.frames are.frames

  pub moved_light : (move : Move) →
      (AddsWeight move state (moved packing move state) → TakesWeight room (weight (moved packing move state).now)) →
      AreLight room (moved packing move state)
  moved_light Opens light = record { now = are.now; frames = (are.now, are.frames) }
  moved_light Drops light = record {
    now = innermost_light room state.frames are.frames;
    frames = around_light room state.frames are.frames;
  }
  moved_light Clears light = record { now = innermost_light room state.frames are.frames; frames = are.frames }
  moved_light ClosesRecords light = record { now = are.now; frames = around_light room state.frames are.frames }
  moved_light Places light =
      record { now = adds_light Places tt (moved packing Places state) light; frames = are.frames }
  moved_light Leaves light =
      record { now = adds_light Leaves tt (moved packing Leaves state) light; frames = are.frames }
  moved_light Closes light = record {
    now = adds_light Closes tt (moved packing Closes state) light;
    frames = around_light room state.frames are.frames;
  }
  moved_light Writes light =
      record { now = adds_light Writes tt (moved packing Writes state) light; frames = are.frames }
  moved_light Ends light = record {
    now = adds_light Ends tt (moved packing Ends state) light;
    frames = around_light room state.frames are.frames;
  }
  moved_light (Packs width) light =
      record { now = adds_light (Packs width) tt (moved packing (Packs width) state) light; frames = are.frames }
  moved_light ClosesRow light = record {
    now = adds_light ClosesRow tt (moved packing ClosesRow state) light;
    frames = around_light room state.frames are.frames;
  }
  moved_light OpensRecords light =
      record { now = adds_light OpensRecords tt (moved packing OpensRecords state) light; frames = are.frames }
  moved_light (PacksRecord count) light = record {
    now = adds_light (PacksRecord count) tt (moved packing (PacksRecord count) state) light;
    frames = are.frames;
  }
  moved_light (PacksStruct stride) light = record {
    now = adds_light (PacksStruct stride) tt (moved packing (PacksStruct stride) state) light;
    frames = struct_frames packing stride;
  }
  moved_light (PacksValue size template stride) light = record {
    now = adds_light (PacksValue size template stride) tt (moved packing (PacksValue size template stride) state) light;
    frames = packed_frames packing;
  }
    where
      packed_frames : (packing : Bool) →
          AllLight room (moved packing (PacksValue size template stride) state).frames
      packed_frames true = are.frames
      packed_frames false = are.frames

-- ---- walks

module _ {world : World} {A : Type 0} where
  pub walk_light : {q : Plan A} {k' j' : ℕ} {last : State} {p : Plan A} {k j : ℕ} {state : State} →
      Walk world q k' j' last p k j state → AreLight world.room state → AreLight world.room last
  walk_light arrived are = are
  walk_light (stepped w) are = walk_light w are
  walk_light (kept {move} {state} has w) are =
      walk_light w (moved_light world.room (packs world.room) state are move has.light)
  walk_light (read n m w) are = walk_light w are

-- a move that weighs too much adds weight
pub heavy_adds : (room : Room) (move : Move) (before after : State) → AreLight room before → TakesMore move →
    RejectsWeight room (weight after.now) →
    (AddsWeight move before after → TakesWeight room (weight after.now)) → ⊥
heavy_adds room move before after are takes heavy light =
    not_both room.growth (weight after.now)
    (light (takes, takes_rejects room.growth (weight before.now) (weight after.now) are.now heavy)) heavy

-- ---- capacity

-- vectors that hold all that weighs so much hold what such moves need on their way
module _ (most : ℕ) (capacity : Marks) (covers : Covers most capacity) where
  drafted_within : (b : Bool) (size : ValueSize) (template : TemplateSize) (stride : ℕ) (n : Marks) →
      weight (if b then with_first_value template stride n else with_next_value size stride n) ≤ most →
      weight n ≤ most → (vector : Vector) →
      of_vector vector (if b then with_first_drafted template stride n
      else record n { bytes = (n.bytes - size.bytes) + stride }) ≤ of_vector vector capacity
  drafted_within true size template stride n light now NodesOf =
      covers (with_first_value template stride n) light NodesOf
  drafted_within true size template stride n light now FamiliesOf =
      covers (with_first_value template stride n) light FamiliesOf
  drafted_within true size template stride n light now LinksOf =
      covers (with_first_value template stride n) light LinksOf
  drafted_within true size template stride n light now PendingOf = covers (record {
    nodes = 0;
    families = 0;
    links = 0;
    pending = n.pending + template.nodes;
    texts = 0;
    bytes = 0;
  }) (omega (arith, light)) PendingOf
  drafted_within true size template stride n light now TextsOf =
      covers (with_first_value template stride n) light TextsOf
  drafted_within true size template stride n light now BytesOf =
      covers (with_first_value template stride n) light BytesOf
  drafted_within false size template stride n light now NodesOf = covers n now NodesOf
  drafted_within false size template stride n light now FamiliesOf = covers n now FamiliesOf
  drafted_within false size template stride n light now LinksOf = covers n now LinksOf
  drafted_within false size template stride n light now PendingOf = covers n now PendingOf
  drafted_within false size template stride n light now TextsOf = covers n now TextsOf
  drafted_within false size template stride n light now BytesOf =
      covers (with_next_value size stride n) light BytesOf

  needed_within : (move : Move) (state : State) → AreLight (weighing most) state →
      AreLight (weighing most) (moved true move state) → IsWithin (needed true move state) capacity
  needed_within (PacksValue size template stride) state are after = drafted_within
      (nat_eq state.now.pending ((innermost state.frames).pending + 1)) size template stride state.now after.now are.now
  needed_within Opens state are after = covers state.now after.now
  needed_within Drops state are after = covers (moved true Drops state).now after.now
  needed_within Clears state are after = covers (moved true Clears state).now after.now
  needed_within Places state are after = covers (moved true Places state).now after.now
  needed_within Leaves state are after = covers (moved true Leaves state).now after.now
  needed_within Closes state are after = covers (moved true Closes state).now after.now
  needed_within Writes state are after = covers (moved true Writes state).now after.now
  needed_within Ends state are after = covers (moved true Ends state).now after.now
  needed_within (Packs width) state are after = covers (moved true (Packs width) state).now after.now
  needed_within ClosesRow state are after = covers (moved true ClosesRow state).now after.now
  needed_within OpensRecords state are after = covers (moved true OpensRecords state).now after.now
  needed_within (PacksRecord count) state are after = covers (moved true (PacksRecord count) state).now after.now
  needed_within ClosesRecords state are after = covers (moved true ClosesRecords state).now after.now
  needed_within (PacksStruct stride) state are after = covers (moved true (PacksStruct stride) state).now after.now

  pub light_has_room : {A : Type 0} (bits : List ℕ) (p : Plan A) (n : ℕ) (state : State) →
      AreLight (weighing most) state → WeighsBy (λ w. w ≤ most) true bits p n state →
      KeepsBy (λ now. IsWithin now capacity) true bits p n state
  light_has_room bits (Ended a) n state are h = tt
  light_has_room bits (Tick p) zero state are h = tt
  light_has_room bits (Tick p) (suc n) state are h = light_has_room bits p n state are h
  light_has_room bits (Made count move levels p) n state are h =
      let after = moved_light (weighing most) true state are move h.0 in
      (needed_within move state are after, light_has_room bits p n (moved true move state) after h.1)
  light_has_room bits (Read place width order rest) n state are h =
      light_has_room bits (rest (number_at bits order place width)) n state are h
