-- Worlds of nested calls: the capacity of vectors never gets less.
use Rattle.std.proofs.Common.{◌≡◌, ℕ, ◌<◌, ◌≤◌, Bool, Option, List, option_map, inl, inr, refl, sym, ap, subst, ◌∙◌, arith}
use Rattle.bit_space.specs.Bits.{bits_of}
use Rattle.bit_space.specs.SpaceView.{SpaceView}
use Rattle.value_store.specs.declared.store.room.Room.{Room}
use Rattle.value_store.specs.declared.store.slots.Marks.{Marks}
use Rattle.pickle_meaning.specs.Values.{Levels}
use Rattle.value_store.specs.Exceeding.{Exceeds}
use Rattle.value_store.specs.Moves.{Move, Opens, Drops, Clears, Places, Leaves, Closes, Writes, Ends, Packs, ClosesRow, OpensRecords, PacksRecord, ClosesRecords, PacksStruct, PacksValue, State, Moves, Refuses, IsWithin, moved, needed, state_of}
use Rattle.value_store.specs.Slots.{Held, packs, marks_of, HoldsInRoom, KeepsRoom}
use Rattle.value_store.specs.Weights.{TakesWeight, RejectsWeight, IsLight, weight}
use Rattle.value_store.specs.Takes.{Vector, NodesOf, FamiliesOf, LinksOf, PendingOf, TextsOf, BytesOf, of_vector}
use Rattle.mapping_plans.specs.Plan.{Plan, Ended, Tick, Made, Read}
use Rattle.pickle_map.specs.Follows.{World, HasRoom, MovesTo, TakesMore, AddsWeight, RefusesMove, LacksRoom, Walk, arrived, stepped, kept, read, Finish, Done, NoSteps, Broken, NoRoom, Partly, NeedsRoom, EndsAs, Follows}
use Rattle.pickle_map.specs.Framed.{world_between, world_of}

-- ---- capacities

-- vectors with no less capacity
abbrev pub Reaches : (before after : Marks) → Type 0
Reaches before after = (vector : Vector) → of_vector vector before ≤ of_vector vector after

pub reaches : (before after : Held) → KeepsRoom before after → Reaches before.capacity after.capacity
reaches before after k NodesOf = k.nodes
reaches before after k FamiliesOf = k.families
reaches before after k LinksOf = k.links
reaches before after k PendingOf = k.pending
reaches before after k TextsOf = k.texts
reaches before after k BytesOf = k.bytes

-- a store's capacity stays
pub same_room : (h : Held) → KeepsRoom h h
same_room h = record {
  room = refl;
  nodes = omega arith;
  families = omega arith;
  links = omega arith;
  pending = omega arith;
  texts = omega arith;
  bytes = omega arith;
}

pub room_then : {before between after : Held} → KeepsRoom before between → KeepsRoom between after →
    KeepsRoom before after
room_then k l = record {
  room = l.room ∙ k.room;
  nodes = omega (arith, k.nodes, l.nodes);
  families = omega (arith, k.families, l.families);
  links = omega (arith, k.links, l.links);
  pending = omega (arith, k.pending, l.pending);
  texts = omega (arith, k.texts, l.texts);
  bytes = omega (arith, k.bytes, l.bytes);
}

pub within_more : (state : State) (capacity capacity' : Marks) → Reaches capacity capacity' → IsWithin state capacity →
    IsWithin state capacity'
within_more state capacity capacity' more h vector =
    let low = h vector in let up = more vector in omega (arith, low, up)

-- a length of a vector that passes a capacity
abbrev pub Passes : State → (capacity : Marks) → Type 0
Passes state capacity = (vector : Vector) × (of_vector vector capacity < of_vector vector state.now)

passes_less : (state : State) (capacity capacity' : Marks) → Reaches capacity' capacity → Passes state capacity →
    Passes state capacity'
passes_less state capacity capacity' less h = let up = less h.0 in let over = h.1 in (h.0, omega (arith, up, over))

-- what doesn't fit isn't within
pub not_within : (state : State) (capacity : Marks) → Passes state capacity → IsWithin state capacity → ⊥
not_within state capacity over h = let low = h over.0 in let up = over.1 in omega (arith, low, up)

-- ---- worlds

-- a world that began with no more capacity, and ends with no less
module _ (known : Option (List ℕ)) (room : Room) (before before' filled filled' : Marks) (less : Reaches before' before)
    (more : Reaches filled filled') where
  abbrev inner : World
  inner = record { known = known; room = room; before = before; filled = filled }

  abbrev around : World
  around = record { known = known; room = room; before = before'; filled = filled' }

  walk_wider : {A : Type 0} {rest : Plan A} {k' j' : ℕ} {last : State} {p : Plan A} {k j : ℕ} {state : State} →
      Walk inner rest k' j' last p k j state → Walk around rest k' j' last p k j state
  walk_wider arrived = arrived
  walk_wider (stepped w) = stepped (walk_wider w)
  walk_wider (kept {move} {state} has w) =
      kept record {
        room = within_more (needed (packs room) move state) filled filled' more has.room;
        light = has.light;
      } (walk_wider w)
  walk_wider (read n m w) = read n m (walk_wider w)

  refuses_less : (move : Move) (state : State) → RefusesMove inner move state → RefusesMove around move state
  refuses_less move state (inl over) = inl (passes_less (needed (packs room) move state) before before' less over)
  refuses_less move state (inr heavy) = inr heavy

  lacks_wider : {A : Type 0} (state : State) (p : Plan A) → NeedsRoom inner state p → NeedsRoom around state p
  lacks_wider state (Ended a) h = absurd h
  lacks_wider state (Tick p) h = absurd h
  lacks_wider state (Made count move these p) h = record {
    takes = h.takes;
    least = h.least;
    before = refuses_less move state h.before;
  }
  lacks_wider state (Read place width order rest) h = absurd h

  ends_wider : {A : Type 0} (finish : Finish A) (p : Plan A) (at now : State) (limit k : ℕ) →
      EndsAs inner finish p at now limit k → EndsAs around finish p at now limit k
  ends_wider (Done a) p at now limit k h = h
  ends_wider NoSteps p at now limit k h = h
  ends_wider Broken p at now limit k h = h
  ends_wider NoRoom p at now limit k h = lacks_wider at p h
  ends_wider (Partly q) p at now limit k h = h

  follow_wider : {limit : ℕ} {A : Type 0} {p : Plan A} {k j : ℕ} {state : State} {k' j' : ℕ} {state' : State}
      {finish : Finish A} →
      Follows inner limit p k j state k' j' state' finish → Follows around limit p k j state k' j' state' finish
  follow_wider {limit} {k'} {state'} {finish} h = record {
    rest = h.rest;
    at = h.at;
    walk = walk_wider h.walk;
    ends = ends_wider finish h.rest h.at state' limit k' h.ends;
  }

-- a call inside another: between two states of the store that are between the other's
pub in_store : {known : Option (List ℕ)} {first before after last : Held} {limit : ℕ} {A : Type 0} {p : Plan A}
    {k j : ℕ} {state : State} {k' j' : ℕ} {state' : State} {finish : Finish A} →
    KeepsRoom first before → KeepsRoom before after → KeepsRoom after last →
    Follows (world_between known before after) limit p k j state k' j' state' finish →
    Follows (world_between known first last) limit p k j state k' j' state' finish
in_store {known} {first} {before} {after} {last} {limit} {p} {k} {j} {state} {k'} {j'} {state'} {finish}
    earlier call later h =
    let w = follow_wider known before.room before.capacity first.capacity after.capacity last.capacity
    (reaches first before earlier) (reaches after last later) h in
    subst (λ r. Follows (record { known = known; room = r; before = first.capacity; filled = last.capacity }) limit p k
    j state k' j' state' finish) earlier.room w

-- it is the other's last
pub in_call : {known : Option (List ℕ)} {first before after : Held} {limit : ℕ} {A : Type 0} {p : Plan A} {k j : ℕ}
    {state : State} {k' j' : ℕ} {state' : State} {finish : Finish A} → KeepsRoom first before → KeepsRoom before after →
    Follows (world_between known before after) limit p k j state k' j' state' finish →
    Follows (world_between known first after) limit p k j state k' j' state' finish
in_call {after} earlier call h = in_store earlier call (same_room after) h

-- it is the other's first
pub in_later : {known : Option (List ℕ)} {first after last : Held} {limit : ℕ} {A : Type 0} {p : Plan A} {k j : ℕ}
    {state : State} {k' j' : ℕ} {state' : State} {finish : Finish A} → KeepsRoom first after → KeepsRoom after last →
    Follows (world_between known first after) limit p k j state k' j' state' finish →
    Follows (world_between known first last) limit p k j state k' j' state' finish
in_later {first} call later h = in_store (same_room first) call later h

-- the last call of another, over a space of the same bytes
pub in_world : {A : Type 0} (space space' : SpaceView) {first before after : Held} {limit : ℕ} {p : Plan A} {k j : ℕ}
    {state : State} {k' j' : ℕ} {state' : State} {finish : Finish A} →
    space'.bytes ≡ space.bytes → KeepsRoom first before → KeepsRoom before after →
    Follows (world_of space' before after) limit p k j state k' j' state' finish →
    Follows (world_of space first after) limit p k j state k' j' state' finish
in_world space space' {before} {after} {limit} {p} {k} {j} {state} {k'} {j'} {state'} {finish} same earlier call h =
    in_call earlier call (subst
    (λ b. Follows (world_between (option_map bits_of b) before after) limit p k j state k' j' state' finish) same h)

-- there is capacity for what a store holds
pub has_room : {after last : Held} → HoldsInRoom after → KeepsRoom after last → IsWithin (state_of after) last.capacity
has_room h k NodesOf = omega (arith, h.nodes, k.nodes)
has_room h k FamiliesOf = omega (arith, h.families, k.families)
has_room h k LinksOf = omega (arith, h.links, k.links)
has_room h k PendingOf = omega (arith, h.pending, k.pending)
has_room h k TextsOf = omega (arith, h.texts, k.texts)
has_room h k BytesOf = omega (arith, h.bytes, k.bytes)

-- a move that needs no more on its way than what it leaves
abbrev pub IsDirect : Move → Type 0
IsDirect (PacksValue size template stride) = ⊥
IsDirect move = Unit {0}

pub direct_needs : (packing : Bool) (move : Move) (state : State) → IsDirect move →
    needed packing move state ≡ moved packing move state
direct_needs packing Opens state h = refl
direct_needs packing Drops state h = refl
direct_needs packing Clears state h = refl
direct_needs packing Places state h = refl
direct_needs packing Leaves state h = refl
direct_needs packing Closes state h = refl
direct_needs packing Writes state h = refl
direct_needs packing Ends state h = refl
direct_needs packing (Packs width) state h = refl
direct_needs packing ClosesRow state h = refl
direct_needs packing OpensRecords state h = refl
direct_needs packing (PacksRecord count) state h = refl
direct_needs packing ClosesRecords state h = refl
direct_needs packing (PacksStruct stride) state h = refl
direct_needs packing (PacksValue size template stride) state h = absurd h

-- the store takes what it stores after a move that adds to it
abbrev pub IsLightAfter : (room : Room) → Move → (before after : State) → Type 0
IsLightAfter room move before after = AddsWeight move before after → TakesWeight room (weight after.now)

-- a call brought a store to what comes of it by such a move
pub comes_by : {known : Option (List ℕ)} (first : Held) {after last : Held} {move : Move} {state : State} →
    KeepsRoom after last → HoldsInRoom after → state_of after ≡ moved (packs first.room) move state → IsDirect move →
    IsLightAfter first.room move state (state_of after) →
    MovesTo (world_between known first last) move state (state_of after)
comes_by {known} first {after} {last} {move} {state} later holds is direct light = record {
  is = is;
  has = record {
    room = subst (HasRoom (world_between known first last))
        (is ∙ sym (direct_needs (packs first.room) move state direct)) (has_room holds later);
    light = subst (IsLightAfter first.room move state) is light;
  };
}

-- a store takes what it holds, as one that was made alike
pub light_in : {first after : Held} → KeepsRoom first after → IsLight after →
    TakesWeight first.room (weight (marks_of after.slots))
light_in {after} keeps light =
    subst (λ (room : Room). TakesWeight room (weight (marks_of after.slots))) keeps.room light

-- a call of the store made such a move
pub moves_by : {known : Option (List ℕ)} {first before after last : Held} {move : Move} → KeepsRoom first before →
    KeepsRoom after last → HoldsInRoom after → Moves before after move → IsDirect move →
    IsLightAfter first.room move (state_of before) (state_of after) →
    MovesTo (world_between known first last) move (state_of before) (state_of after)
moves_by {known} {first} {before} {after} {last} {move} earlier later holds moves direct light =
    comes_by first {last = last} {move = move} {state = state_of before} later holds
    (moves ∙ ap (λ (r : Room). moved (packs r) move (state_of before)) earlier.room) direct light

-- one that takes more
pub moves_to : {known : Option (List ℕ)} {first before after last : Held} {move : Move} → KeepsRoom first before →
    KeepsRoom before after → KeepsRoom after last → HoldsInRoom after → IsLight after → Moves before after move →
    IsDirect move → MovesTo (world_between known first last) move (state_of before) (state_of after)
moves_to {move} earlier call later holds light moves direct =
    moves_by {move = move} earlier later holds moves direct (λ adds. light_in (room_then earlier call) light)

-- a move didn't fit
pub lacks_these : {known : Option (List ℕ)} {first before : Held} {filled : Marks} {move : Move} {these : Levels} →
    KeepsRoom first before → TakesMore move → Exceeds before.room these → Refuses before move →
    LacksRoom (record { known = known; room = first.room; before = first.capacity; filled = filled })
    (state_of before) move these
lacks_these {known} {first} {before} {filled} {move} {these} k takes least refuses = record {
  takes = takes;
  least = subst (λ (r : Room). Exceeds r these) k.room least;
  before = refused refuses;
}
  where
    refused : Refuses before move →
        RefusesMove (record { known = known; room = first.room; before = first.capacity; filled = filled }) move
        (state_of before)
    refused (inl cannot) =
        let over : Passes (needed (packs first.room) move (state_of before)) before.capacity =
        subst (λ (r : Room). Passes (needed (packs r) move (state_of before)) before.capacity) k.room cannot in
        inl (passes_less (needed (packs first.room) move (state_of before)) before.capacity first.capacity
        (reaches first before k) over)
    refused (inr heavy) =
        inr (subst (λ (r : Room). RejectsWeight r (weight (moved (packs r) move (state_of before)).now)) k.room heavy)
