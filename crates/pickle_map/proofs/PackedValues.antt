-- Arrays of packed values of fixed layout: what the calls of the store need, and what they leave.
use Rattle.std.proofs.Common.{◌≡◌, ℕ, ◌+◌, ◌-◌, ◌*◌, ◌^◌, ◌<◌, true, List, [], ◌∷◌, ◌++◌, Option, Some, Result, Ok, Err, length, take, refl, sym, ap, subst, ◌∙◌, arith}
use Rattle.std.proofs.Math.Nat.{mul-suc}
use Rattle.std.proofs.lemmas.Bool.{ne_eqb}
use Rattle.std.proofs.lemmas.List.{length_push, length-take}
use Rattle.pickle_types.specs.declared.node.Node.{Node}
use Rattle.pickle_types.specs.Types.{PokeType}
use Rattle.pickle_meaning.specs.Clauses.{FaultAt}
use Rattle.pickle_meaning.specs.Fits.{Fits}
use Rattle.pickle_meaning.specs.Values.{Value, Levels, start_of, end_of, pushed, outer_of}
use Rattle.value_store.specs.declared.store.room.Room.{Room}
use Rattle.value_store.specs.declared.store.slots.Marks.{Marks}
use Rattle.value_store.specs.Below.{Extends, KeepsBelow}
use Rattle.value_store.specs.LayoutArrays.{RefusesFirst, RefusesNext, HoldsFirst, IsPackingLike, IsPackingNext, MovesAsFirst, MovesAsNext, TakesFirst, TakesNext, PacksFirst, PacksNext, instances_from}
use Rattle.value_store.specs.Layouts.{row_of, row_length, template_of, value_size, packs_value}
use Rattle.value_store.specs.Moves.{State, Moves, Refuses, IsWithin, moved, needed, state_of, with_value}
use Rattle.value_store.specs.Records.{instance}
use Rattle.value_store.specs.Slots.{Slots, Held, HoldsInRoom, KeepsRoom, Regrown, innermost, level_count, levels, marks_of, packs}
use Rattle.value_store.specs.Takes.{NodesOf, FamiliesOf, LinksOf, PendingOf, TextsOf, BytesOf}
use Rattle.value_store.proofs.Fits.{innermost-level, packs_no_more}
use Rattle.value_store.proofs.Taken.{pushed-some}
use Rattle.value_store.proofs.Layouts.{instance-of_template}
use Rattle.mapping_plans.specs.Mapping.{packs_last}
use Rattle.mapping_plans.specs.Plan.{Plan, then_ok}
use Rattle.mapping_plans.specs.Rows.{Values, Layout}
use Rattle.mapping_plans.specs.Rows as rows
use Rattle.mapping_plans.specs.Widths.{HasWidths}
use Rattle.mapping_plans.proofs.Adding.{IsAdded}
use Rattle.mapping_plans.proofs.LaidValues.{IsElement, IsLaid, element_is, values_alike}
use Rattle.pickle_map.specs.Follows.{MovesTo, Done, NoRoom, Follows}
use Rattle.pickle_map.specs.Framed.{AddsToLevel, LevelStays, world_between}
use Rattle.pickle_map.specs.declared.mapper.stop.Stop.{Stop}
use Rattle.pickle_map.specs.Records.{IsOpened}
use Rattle.pickle_map.specs.LaidArrays.{AddsValue, HasValues, IsLaidArray, no_values, some_values}
use Rattle.pickle_map.proofs.Keeping.{below_keeps, extended_keeps, keeps_then}
use Rattle.pickle_map.proofs.RecordFrames.{regrown_by}
use Rattle.pickle_map.proofs.Walks.{follow_done, follow_made, follow_no_room, follow_then_ok}
use Rattle.value_store.specs.Weights.{weight, TakesWeight, IsLight}
use Rattle.pickle_map.proofs.Worlds.{light_in, room_then, in_later, lacks_these}

-- ---- what an element takes of a store

-- one pending child, and what its value does
pub added_marks : (before mid : Held) (stride : ℕ) (v : Value) → IsAdded stride (state_of before) v (state_of mid) →
    marks_of mid.slots ≡ with_value (value_size v) (marks_of before.slots)
added_marks before mid stride v added = ap (λ (s : State). s.now) added.is

-- the array stays a pending child, so it isn't the only one
pub added_more : (before mid : Held) (stride : ℕ) (v : Value) →
    length before.slots.pending ≡ (innermost before.frames).pending + 1 → mid.frames ≡ before.frames →
    IsAdded stride (state_of before) v (state_of mid) →
    length mid.slots.pending ≡ (innermost mid.frames).pending + 1 → ⊥
added_more before mid stride v array frames added only =
    let more : length mid.slots.pending ≡ length before.slots.pending + 1 =
    ap (λ (n : Marks). n.pending) (added_marks before mid stride v added) in
    let mark : (innermost mid.frames).pending ≡ (innermost before.frames).pending =
    ap (λ (fs : List Marks). (innermost fs).pending) frames in
    omega (arith, array, more, mark, only)

-- ---- a store with other capacities

like_with : (nodes : List Node) (h : Held) (capacity : Marks) (template : Value) (size start : ℕ)
    (structs : List (List ℕ)) (outer : Levels) → IsPackingLike nodes h template size start structs outer →
    IsPackingLike nodes (record h { capacity = capacity }) template size start structs outer
unfolding levels
like_with nodes h capacity template size start structs outer w = record {
  is = w.is;
  before = w.before;
  gathering = record {
    is = w.gathering.is;
    own = w.gathering.own;
    template = w.gathering.template;
    are = w.gathering.are;
    packs = w.gathering.packs;
  };
  last = w.last;
  first = w.first;
  drafted = w.drafted;
  family = w.family;
  lengths = w.lengths;
  few = w.few;
}

like_stays : (nodes : List Node) (h n : Held) (template : Value) (size start : ℕ) (structs : List (List ℕ))
    (outer : Levels) → Regrown h n → IsPackingLike nodes h template size start structs outer →
    IsPackingLike nodes n template size start structs outer
like_stays nodes h n template size start structs outer e w =
    subst (λ x. IsPackingLike nodes x template size start structs outer) (sym e)
    (like_with nodes h n.capacity template size start structs outer w)

laid_stays : (nodes : List Node) (h n : Held) (ty : PokeType) (start : ℕ) (outer : Levels) (place : ℕ)
    (values : List (Option Value)) → Regrown h n → IsLaidArray nodes h ty start outer place values →
    IsLaidArray nodes n ty start outer place values
laid_stays nodes h n ty start outer place values e a = record {
  m = a.m;
  inner = a.inner;
  first = a.first;
  fits = a.fits;
  size = a.size;
  wide = a.wide;
  rows = a.rows;
  some = a.some;
  array = like_stays nodes h n _ a.size start a.rows outer e a.array;
  are = a.are;
  ends = a.ends;
}

none_with : (nodes : List Node) (h : Held) (capacity : Marks) (outer : Levels) → levels nodes h ≡ [] ∷ outer →
    levels nodes (record h { capacity = capacity }) ≡ [] ∷ outer
unfolding levels
none_with nodes h capacity outer is = is

pub values_stay : (nodes : List Node) (h n : Held) (ty : PokeType) (start : ℕ) (outer : Levels) (place : ℕ)
    (values : List (Option Value)) → Regrown h n → HasValues nodes h ty start outer place values →
    HasValues nodes n ty start outer place values
values_stay nodes h n ty start outer _ _ e (no_values is opened) =
    subst (λ x. HasValues nodes x ty start outer start []) (sym e)
    (no_values (none_with nodes h n.capacity outer is) opened)
values_stay nodes h n ty start outer place values e (some_values a) =
    some_values (laid_stays nodes h n ty start outer place values e a)

-- ---- the first value of an array

module _ (nodes : List Node) (mid : Held) (m : ℕ) (ty : PokeType) (stride : ℕ) (row : rows.row_of ty ≡ Values stride)
    (widths : HasWidths ty) (inner : Levels) (s : ℕ) (v : Value) (outer : Levels) (fits : Fits m ty inner s v) where
  abbrev own : IsElement ty stride s v
  own = element_is m ty stride row widths inner s v fits

  pub first_taken : levels nodes mid ≡ (Some v ∷ []) ∷ outer → end_of v < 2 ^ 64 → packs mid.room ≡ true →
      TakesFirst mid
  first_taken is short packing =
      let e = own in
      record {
        names = nodes;
        value = v;
        outer = outer;
        is = is;
        fixed = e.is.fixed;
        label = e.label;
        some = omega (arith, e.bytes, e.some);
        few = omega (arith, e.bytes, e.few);
        small = omega (arith, e.is.starts, e.is.ends, e.narrow, e.few);
        short = short;
        packs = packing;
      }

  module _ (is : levels nodes mid ≡ (Some v ∷ []) ∷ outer) where
    pub first_cannot : RefusesFirst mid → Refuses mid (packs_value v)
    first_cannot cannot = cannot nodes v outer is own.is.fixed

    pub first_makes : (after : Held) → MovesAsFirst mid after → Moves mid after (packs_value v)
    first_makes after moves = moves nodes v outer is own.is.fixed

    pub first_holds : (after : Held) → HoldsFirst mid after →
        IsWithin (needed (packs mid.room) (packs_value v) (state_of mid)) after.capacity
    first_holds after holds = holds nodes v outer is own.is.fixed

  pub first_added : (after : Held) → levels nodes mid ≡ (Some v ∷ []) ∷ outer → PacksFirst mid after →
      IsLaidArray nodes after ty s outer (end_of v) (Some v ∷ [])
  first_added after is packed =
      let e = own in
      let size : end_of v - start_of v ≡ e.layout.bits = omega (arith, e.is.starts, e.is.ends) in
      let array = packed nodes v outer is e.is.fixed in
      let array = rw (size, e.is.starts) at array in
      record {
        m = m;
        inner = inner;
        first = v;
        fits = fits;
        size = e.layout.bits;
        wide = e.is.ends;
        rows = row_of v ∷ [];
        some = omega arith;
        array = array;
        are = ap (λ x. Some x ∷ []) (sym (instance-of_template v e.is.fixed));
        ends = omega (arith, e.is.ends);
      }

-- ---- the next one

from_none : (n : ℕ) → n ≡ 0 + n
from_none n = omega arith

-- one more struct of a template
instances_more : (template : Value) (size shift : ℕ) (structs : List (List ℕ)) (own : List ℕ) →
    instances_from template size shift (structs ++ own ∷ [])
    ≡ instances_from template size shift structs
    ++ Some (instance template (shift + size * length structs) own) ∷ []
instances_more template size shift [] own =
    let same : shift ≡ shift + size * 0 = omega arith in ap (λ n. Some (instance template n own) ∷ []) same
instances_more template size shift (x ∷ structs) own =
    let same : shift + size + size * length structs ≡ shift + size * length (x ∷ structs) =
    omega (arith, mul-suc size (length structs)) in
    ap (λ vs. Some (instance template shift x) ∷ vs)
    (instances_more template size (shift + size) structs own
    ∙ ap (λ n. instances_from template size (shift + size) structs ++ Some (instance template n own) ∷ []) same)

module _ (nodes : List Node) (before mid : Held) (m : ℕ) (ty : PokeType) (stride : ℕ)
    (row : rows.row_of ty ≡ Values stride) (widths : HasWidths ty) (inner : Levels) (start place : ℕ) (v : Value)
    (outer : Levels) (values : List (Option Value)) (fits : Fits m ty inner place v)
    (a : IsLaidArray nodes before ty start outer place values) (frames : mid.frames ≡ before.frames)
    (room : mid.room ≡ before.room) (extends : Extends before mid)
    (keeps : levels nodes mid ≡ pushed (levels nodes before) (Some v)) where
  abbrev one : IsElement ty stride start a.first
  one = element_is a.m ty stride row widths a.inner start a.first a.fits

  abbrev more : IsElement ty stride place v
  more = element_is m ty stride row widths inner place v fits

  same_layout : more.layout ≡ one.layout
  same_layout = let e = more.laid in let f = one.laid in cc

  size_is : a.size ≡ one.layout.bits
  size_is = omega (arith, a.wide, one.is.ends)

  last_place : end_of v ≡ place + a.size
  last_place = more.is.ends ∙ ap (λ (l : Layout). place + l.bits) same_layout ∙ ap (λ n. place + n) (sym size_is)

  moved_by : place - start ≡ a.size * length a.rows
  moved_by = omega (arith, a.ends)

  next_is : v ≡ instance (template_of a.first 0) (a.size * length a.rows) (row_of v)
  next_is =
      values_alike 0 ty one.layout start place a.first v one.is
      (subst (λ l. IsLaid 0 ty l place v) same_layout more.is) (omega (arith, a.ends))
      ∙ ap (λ n. instance (template_of a.first 0) n (row_of v)) moved_by

  abbrev next_packing : IsPackingNext nodes mid (template_of a.first 0) a.size start a.rows v outer
  next_packing = record {
    is = keeps ∙ ap (λ ls. pushed ls (Some v)) a.array.is;
    slots = before.slots;
    packing = like_stays nodes before (record mid { slots = before.slots }) _ a.size start a.rows outer
        (regrown_by before (record mid { slots = before.slots }) refl frames room) a.array;
    rest = extends;
  }

  next_short : end_of v < 2 ^ 64 → start + a.size * (length a.rows + 1) < 2 ^ 64
  next_short short = omega (arith, short, last_place, a.ends, mul-suc a.size (length a.rows))

  pub next_taken : end_of v < 2 ^ 64 → TakesNext mid
  next_taken short = record {
    names = nodes;
    template = template_of a.first 0;
    size = a.size;
    start = start;
    rows = a.rows;
    value = v;
    outer = outer;
    next = next_packing;
    fixed = more.is.fixed;
    is = next_is;
    short = next_short short;
  }

  pub next_cannot : IsAdded stride (state_of before) v (state_of mid) → end_of v < 2 ^ 64 → RefusesNext mid →
      Refuses mid (packs_value v)
  next_cannot added short cannot = cannot nodes (template_of a.first 0) a.size start a.rows v outer next_packing
      more.is.fixed next_is (next_short short) (added_marks before mid stride v added)

  pub next_makes : (after : Held) → IsAdded stride (state_of before) v (state_of mid) → end_of v < 2 ^ 64 →
      MovesAsNext mid after → Moves mid after (packs_value v)
  next_makes after added short moves = moves nodes (template_of a.first 0) a.size start a.rows v outer next_packing
      more.is.fixed next_is (next_short short) (added_marks before mid stride v added)

  pub next_added : (after : Held) → end_of v < 2 ^ 64 → PacksNext mid after →
      IsLaidArray nodes after ty start outer (end_of v) (values ++ Some v ∷ [])
  next_added after short packed = record {
    m = a.m;
    inner = a.inner;
    first = a.first;
    fits = a.fits;
    size = a.size;
    wide = a.wide;
    rows = a.rows ++ row_of v ∷ [];
    some = let e = length_push a.rows (row_of v) in omega (arith, e);
    array = packed nodes (template_of a.first 0) a.size start a.rows v outer next_packing more.is.fixed next_is
        (next_short short);
    are = ap (λ vs. vs ++ Some v ∷ []) a.are
        ∙ ap (λ x. instances_from (template_of a.first 0) a.size 0 a.rows ++ Some x ∷ []) next_is
        ∙ ap (λ n. instances_from (template_of a.first 0) a.size 0 a.rows
        ++ Some (instance (template_of a.first 0) n (row_of v)) ∷ []) (from_none (a.size * length a.rows))
        ∙ sym (instances_more (template_of a.first 0) a.size 0 a.rows (row_of v));
    ends = let e = length_push a.rows (row_of v) in
        rw e (omega (arith, last_place, a.ends, mul-suc a.size (length a.rows)));
  }

-- ---- the frames of the array

pub record HasFrame (nodes : List Node) (h : Held) (outer : Levels) : Type 0 where
  pub own : List (Option Value)
  pub are : levels nodes h ≡ own ∷ outer

pub has_frame : (nodes : List Node) (h : Held) (ty : PokeType) (start : ℕ) (outer : Levels) (place : ℕ)
    (values : List (Option Value)) → HasValues nodes h ty start outer place values → HasFrame nodes h outer
has_frame nodes h ty start outer _ _ (no_values is opened) = record { own = []; are = is }
has_frame nodes h ty start outer place values (some_values a) = record { own = _; are = a.array.is }

-- an array that is there is the one pending child of its frame
pub array_pending : (nodes : List Node) (h : Held) (ty : PokeType) (start : ℕ) (outer : Levels) (place : ℕ)
    (values : List (Option Value)) → IsLaidArray nodes h ty start outer place values →
    length h.slots.pending ≡ (innermost h.frames).pending + 1
array_pending nodes h ty start outer place values a =
    let before = a.array.before in
    let gathering = a.array.gathering in
    let mark = (innermost h.frames).pending in
    omega (
      arith,
      (innermost-level h.room h.frames before gathering.own).is.within.pending,
      ap (λ (s : Slots). length s.pending) gathering.is,
      length_push (take mark before.pending) (Some (length before.nodes)),
      length-take mark before.pending,
    )

-- so it isn't just opened
pub not_opened : (nodes : List Node) (h : Held) (ty : PokeType) (start : ℕ) (outer : Levels) (place : ℕ)
    (values : List (Option Value)) → IsLaidArray nodes h ty start outer place values → IsOpened h → ⊥
not_opened nodes h ty start outer place values a opened =
    let one = array_pending nodes h ty start outer place values a in
    let same = ap (λ (k : Marks). k.pending) opened in
    omega (arith, one, same)

-- there are no values
pub record HasNone (nodes : List Node) (h : Held) (start : ℕ) (outer : Levels) (place : ℕ)
    (values : List (Option Value)) : Type 0 where
  pub opened : IsOpened h
  pub levels : levels nodes h ≡ [] ∷ outer
  pub begins : place ≡ start
  pub none : values ≡ []

pub none_yet : (nodes : List Node) (h : Held) (ty : PokeType) (start : ℕ) (outer : Levels) (place : ℕ)
    (values : List (Option Value)) → HasValues nodes h ty start outer place values → IsOpened h →
    HasNone nodes h start outer place values
none_yet nodes h ty start outer _ _ (no_values is opened) own =
    record { opened = own; levels = is; begins = refl; none = refl }
none_yet nodes h ty start outer place values (some_values a) own =
    absurd (not_opened nodes h ty start outer place values a own)

-- another has some
pub some_yet : (nodes : List Node) (h : Held) (ty : PokeType) (start : ℕ) (outer : Levels) (place : ℕ)
    (values : List (Option Value)) → HasValues nodes h ty start outer place values → (IsOpened h → ⊥) →
    IsLaidArray nodes h ty start outer place values
some_yet nodes h ty start outer _ _ (no_values is opened) other = absurd (other opened)
some_yet nodes h ty start outer place values (some_values a) other = a

-- ---- what the array has after the call

module _ (nodes : List Node) (before mid after : Held) (m : ℕ) (ty : PokeType) (stride : ℕ)
    (row : rows.row_of ty ≡ Values stride) (widths : HasWidths ty) (inner : Levels) (place : ℕ) (v : Value)
    (fits : Fits m ty inner place v) (keeps : levels nodes mid ≡ pushed (levels nodes before) (Some v)) where
  pub first_adds : IsOpened before → PacksFirst mid after → AddsValue nodes before after ty place v
  first_adds opened packed = λ start outer values has.
      let none = none_yet nodes before ty start outer place values has opened in
      let is = keeps ∙ ap (λ ls. pushed ls (Some v)) none.levels in
      let own = first_added nodes mid m ty stride row widths inner place v outer fits after is packed in
      let own = subst (λ s. IsLaidArray nodes after ty s outer (end_of v) (Some v ∷ [])) none.begins own in
      subst (λ vs. IsLaidArray nodes after ty start outer (end_of v) (vs ++ Some v ∷ [])) (sym none.none) own

  pub next_adds : (IsOpened before → ⊥) → mid.frames ≡ before.frames → mid.room ≡ before.room →
      Extends before mid → end_of v < 2 ^ 64 → PacksNext mid after → AddsValue nodes before after ty place v
  next_adds other frames room extends short packed = λ start outer values has.
      let a = some_yet nodes before ty start outer place values has other in
      next_added nodes before mid m ty stride row widths inner start place v outer values fits a frames room extends
      keeps after short packed

-- ---- the call that packs a value, after it was mapped

module _ {known : Option (List ℕ)} {first mid last : Held} (call : KeepsRoom first mid) (packing : KeepsRoom mid last)
    {limit k j k' j' : ℕ} (p : Plan (Result Value FaultAt)) (inner : Levels) {v : Value}
    (h : Follows (world_between known first mid) limit p k j (state_of first) k' j' (state_of mid)
    (Done (Ok v))) where
  pub value_packed : MovesTo (world_between known first last) (packs_value v) (state_of mid) (state_of last) →
      Follows (world_between known first last) limit (then_ok p (packs_last inner)) k j (state_of first) k' j'
      (state_of last) (Done (Ok v))
  value_packed moves = follow_then_ok p (packs_last inner) (in_later call packing h)
      (follow_made {limit' = limit} moves refl refl (omega arith) follow_done)

  pub value_refused : packs first.room ≡ true → Refuses mid (packs_value v) →
      Follows (world_between known first last) limit (then_ok p (packs_last inner)) k j (state_of first) k' j'
      (state_of last) NoRoom
  value_refused some cannot = follow_then_ok p (packs_last inner) (in_later call packing h)
      (follow_no_room (lacks_these call tt (packs_no_more mid.room (pushed inner (Some v))
      (pushed-some inner (Some v)) (ap packs call.room ∙ some)) cannot))

-- the first one, which its call has capacity for
module _ {first mid last : Held} (call : KeepsRoom first mid) (packing : KeepsRoom mid last) (v : Value)
    (moves : Moves mid last (packs_value v))
    (holds : IsWithin (needed (packs mid.room) (packs_value v) (state_of mid)) last.capacity) (light : IsLight last)
  where
    pub first_moves : {known : Option (List ℕ)} →
        MovesTo (world_between known first last) (packs_value v) (state_of mid) (state_of last)
    first_moves = record {
      is = moves ∙ ap (λ (r : Room). moved (packs r) (packs_value v) (state_of mid)) call.room;
      has = record {
        room = subst (λ (r : Room). IsWithin (needed (packs r) (packs_value v) (state_of mid)) last.capacity) call.room
            holds;
        light = λ adds. subst (λ (s : State). TakesWeight first.room (weight s.now))
            (moves ∙ ap (λ (r : Room). moved (packs r) (packs_value v) (state_of mid)) call.room)
            (light_in (room_then call packing) light);
      };
    }

-- the next value gives up its own bytes before those of its struct come
abbrev given_up : Held → Value → State
given_up mid v = record {
  now = record (marks_of mid.slots) { bytes = (length mid.slots.bytes - (value_size v).bytes) + row_length v };
  frames = mid.frames;
}

module _ {first mid last : Held} (call : KeepsRoom first mid) (packing : KeepsRoom mid last)
    (some : packs first.room ≡ true) (v : Value)
    (other : length mid.slots.pending ≡ (innermost mid.frames).pending + 1 → ⊥) (moves : Moves mid last (packs_value v))
    (before : HoldsInRoom mid) (after : HoldsInRoom last) (light : IsLight last) where
  next_needs : needed (packs first.room) (packs_value v) (state_of mid) ≡ given_up mid v
  next_needs = rw (some, ne_eqb (length mid.slots.pending) ((innermost mid.frames).pending + 1) other) refl

  next_is_moved : state_of last ≡ moved (packs first.room) (packs_value v) (state_of mid)
  next_is_moved = moves ∙ ap (λ (r : Room). moved (packs r) (packs_value v) (state_of mid)) call.room

  next_bytes : length last.slots.bytes ≡ (length mid.slots.bytes - (value_size v).bytes) + row_length v
  next_bytes =
      ap (λ (s : State). s.now.bytes) next_is_moved
      ∙ rw (some, ne_eqb (length mid.slots.pending) ((innermost mid.frames).pending + 1) other) refl

  next_within : IsWithin (given_up mid v) last.capacity
  next_within NodesOf = omega (arith, before.nodes, packing.nodes)
  next_within FamiliesOf = omega (arith, before.families, packing.families)
  next_within LinksOf = omega (arith, before.links, packing.links)
  next_within PendingOf = omega (arith, before.pending, packing.pending)
  next_within TextsOf = omega (arith, before.texts, packing.texts)
  next_within BytesOf = omega (arith, after.bytes, next_bytes)

  pub next_moves : {known : Option (List ℕ)} →
      MovesTo (world_between known first last) (packs_value v) (state_of mid) (state_of last)
  next_moves = record {
    is = next_is_moved;
    has = record {
      room = subst (λ (s : State). IsWithin s last.capacity) (sym next_needs) next_within;
      light = λ adds. subst (λ (s : State). TakesWeight first.room (weight s.now)) next_is_moved
          (light_in (room_then call packing) light);
    };
  }

-- ---- what the call leaves

pub value_frames : (mid last : Held) (v : Value) → packs mid.room ≡ true → Moves mid last (packs_value v) →
    last.frames ≡ mid.frames
value_frames mid last v packing moves = ap (λ (s : State). s.frames) moves ∙ rw packing refl

-- the array's frame stays
pub packed_stays : {A : Type 0} (nodes : List Node) (first mid last : Held) (x : A) →
    AddsToLevel nodes first mid (Ok x) → KeepsBelow mid last → last.frames ≡ mid.frames →
    level_count last ≡ level_count mid → outer_of (levels nodes last) ≡ outer_of (levels nodes first) →
    LevelStays nodes first last
packed_stays nodes first mid last x adds below frames depth outer = record {
  outer = outer;
  depth = depth ∙ adds.depth;
  frames = frames ∙ adds.frames;
  opened = keeps_then first mid last adds.frames (extended_keeps first mid adds.extends) (below_keeps mid last below);
}

-- the mapping stopped
pub stopped_regrown : {A : Type 0} (nodes : List Node) (first mid : Held) (stop : Stop) →
    AddsToLevel {A = A} nodes first mid (Err stop) → mid.room ≡ first.room → Regrown first mid
stopped_regrown nodes first mid stop adds room = regrown_by first mid adds.back adds.frames room
