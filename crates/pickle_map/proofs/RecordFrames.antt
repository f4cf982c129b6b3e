-- A packed struct, whose numbers had a frame of their own.
use Rattle.std.proofs.Common.{◌≡◌, ℕ, ◌+◌, ◌<◌, true, List, ◌∷◌, Option, Some, Result, Ok, length, inl, inr, refl, sym, ap, subst, ◌∙◌}
use Rattle.pickle_types.specs.declared.node.Field.{Field}
use Rattle.pickle_types.specs.declared.node.Node.{Node}
use Rattle.pickle_types.specs.Table.{type_of, open_fields}
use Rattle.pickle_meaning.specs.Clauses.{FaultAt}
use Rattle.pickle_meaning.specs.Means.{Opened, field_names, struct_value}
use Rattle.pickle_meaning.specs.Values.{Naming, Value, Mapped, StructLabel, Levels, opened, outer_of, pushed, gathered}
use Rattle.value_store.specs.declared.store.slots.Marks.{Marks}
use Rattle.value_store.specs.declared.store.slots.Shape.{Shape}
use Rattle.value_store.specs.Columns.{with_numbers}
use Rattle.value_store.specs.Moves.{State, Moves, Opens, Drops, PacksStruct, IsWithin, state_of, moved}
use Rattle.value_store.specs.Names.{title_at, names_at}
use Rattle.value_store.specs.PackedStructs.{fields, struct_bits, struct_of}
use Rattle.value_store.specs.Slots.{Held, HoldsInRoom, KeepsRoom, Regrown, around, cut_to, innermost, levels, marks_of, packs}
use Rattle.value_store.specs.Takes.{of_vector}
use Rattle.value_store.proofs.Fits.{packs_no_more}
use Rattle.value_store.proofs.Taken.{pushed-some}
use Rattle.mapping_plans.specs.Plan.{Plan, then_ok, framed}
use Rattle.pickle_map.specs.declared.mapper.stop.Stop.{Stop}
use Rattle.pickle_map.specs.Columns.{PlacesMore, AddsColumns, after_columns, shapes_of}
use Rattle.pickle_map.specs.Follows.{World, RefusesMove, MovesTo, Done, NoRoom, Follows}
use Rattle.pickle_map.specs.Framed.{world_between}
use Rattle.pickle_map.specs.Records.{HasStructs, no_structs, some_structs, IsAmong, PassesRoom, in_frame, packed_state, struct_packs}
use Rattle.pickle_map.specs.Stops.{stop_finish}
use Rattle.pickle_map.proofs.Columns.{cut_numbers}
use Rattle.pickle_map.proofs.RecordRows.{less_passes}
use Rattle.pickle_map.proofs.Walks.{ends_made, ends_no_room, follow_stop, framed_ok, framed_no_room, framed_stop}
use Rattle.value_store.specs.Weights.{weight, RejectsWeight, IsLight}
use Rattle.pickle_map.proofs.Worlds.{light_in, comes_by, has_room, in_store, moves_by, room_then, same_room}

-- ---- a store with other capacities

pub regrown_by : (h n : Held) → n.slots ≡ h.slots → n.frames ≡ h.frames → n.room ≡ h.room → Regrown h n
regrown_by h n slots frames room = rw (← slots, ← frames, ← room) refl

structs_with : (nodes : List Node) (h : Held) (capacity : Marks) (at : ℕ) (cs : List Shape) (first : ℕ) (outer : Levels)
    (rows : List (List ℕ)) → HasStructs nodes h at cs first outer rows →
    HasStructs nodes (record h { capacity = capacity }) at cs first outer rows
unfolding levels
structs_with nodes h capacity at cs first outer _ (no_structs is opened) = no_structs is opened
structs_with nodes h capacity at cs first outer _ (some_structs some w) = some_structs some (record {
  before = w.before;
  gathering = record {
    is = w.gathering.is;
    own = w.gathering.own;
    template = w.gathering.template;
    are = w.gathering.are;
    packs = w.gathering.packs;
  };
  template = w.template;
  inside = w.inside;
  shapes = w.shapes;
  digits = w.digits;
})

pub structs_stay : (nodes : List Node) (h n : Held) (at : ℕ) (cs : List Shape) (first : ℕ) (outer : Levels)
    (rows : List (List ℕ)) →
    Regrown h n → HasStructs nodes h at cs first outer rows → HasStructs nodes n at cs first outer rows
structs_stay nodes h n at cs first outer rows e has = subst (λ x. HasStructs nodes x at cs first outer rows) (sym e)
    (structs_with nodes h n.capacity at cs first outer rows has)

pub among_stays : (nodes : List Node) (h n : Held) (at : ℕ) (cs : List Shape) (start : ℕ) → Regrown h n →
    IsAmong nodes h at cs start → IsAmong nodes n at cs start
among_stays nodes h n at cs start e a = record {
  first = a.first;
  rows = a.rows;
  outer = a.outer;
  has = structs_stay nodes h n at cs a.first a.outer a.rows e a.has;
  begins = a.begins;
}

-- ---- the frame

module _ {first begun done dropped : Held} (opening : KeepsRoom first begun) (call : KeepsRoom begun done)
    (dropping : KeepsRoom done dropped) (opens : Moves first begun Opens) (same : begun.slots ≡ first.slots)
    (more : PlacesMore begun done) (drops : Moves done dropped Drops)
    (cut : dropped.slots ≡ cut_to (innermost done.frames) done.slots) where
  done_frames : done.frames ≡ marks_of first.slots ∷ first.frames
  done_frames = more.frames ∙ ap (λ (s : State). s.frames) opens

  -- nothing is left of it
  pub dropped_is : Regrown first dropped
  dropped_is =
      regrown_by first dropped
      (cut ∙ ap (λ ks. cut_to (innermost ks) done.slots) done_frames
      ∙ ap (cut_to (marks_of first.slots)) (more.slots ∙ ap (with_numbers more.numbers) same)
      ∙ cut_numbers more.numbers first.slots)
      (ap (λ (s : State). s.frames) drops ∙ ap around done_frames)
      (dropping.room ∙ call.room ∙ opening.room)

  -- the numbers in it
  pub filled_is : (cs : List Shape) (start end : ℕ) (row row' : List ℕ) → AddsColumns begun done cs start end row row' →
      state_of done ≡ in_frame (length cs) (state_of first)
  filled_is cs start end row row' adds = adds.state ∙ ap (after_columns (length cs)) opens

  pub filled_within : (cs : List Shape) (start end : ℕ) (row row' : List ℕ) →
      AddsColumns begun done cs start end row row' → IsWithin (in_frame (length cs) (state_of dropped)) dropped.capacity
  filled_within cs start end row row' adds =
      let here : state_of dropped ≡ state_of first = ap state_of dropped_is in
      subst (λ (s : State). IsWithin s dropped.capacity)
      (filled_is cs start end row row' adds ∙ ap (in_frame (length cs)) (sym here)) (has_room adds.within dropping)

module _ (nodes : List Node) {first begun done dropped : Held} (opening : KeepsRoom first begun)
    (call : KeepsRoom begun done) (dropping : KeepsRoom done dropped) (opens : Moves first begun Opens)
    (holds : HoldsInRoom begun) where
  -- the call in the frame stopped
  pub frame_stops : {known : Option (List ℕ)} {limit k j k' j' : ℕ} (p : Plan (Result Opened FaultAt))
      (f : Opened → Plan (Result Value FaultAt)) (drops : Moves done dropped Drops) →
      HoldsInRoom dropped → (stop : Stop) →
      Follows (world_between known begun done) limit p k j (state_of begun) k' j' (state_of done) (stop_finish stop) →
      Follows (world_between known first dropped) limit (framed (levels nodes first) (then_ok p f)) k j (state_of first)
      k' j' (state_of dropped) (stop_finish stop)
  frame_stops p f drops within stop h =
      framed_stop (levels nodes first) (then_ok p f)
      (moves_by (same_room first) (room_then call dropping) holds opens tt (λ adds. absurd adds.0))
      (moves_by (room_then opening call) (same_room dropped) within drops tt (λ adds. absurd adds.0)) stop
      (follow_stop p f stop (in_store opening call dropping h))

  -- the struct is packed after that, or doesn't fit
  module _ {last : Held} (packing : packs first.room ≡ true) (leaving : KeepsRoom dropped last) (count stride : ℕ)
      (filled : state_of done ≡ in_frame count (state_of first)) {known : Option (List ℕ)} {limit k j k1 j1 : ℕ}
      (p : Plan (Result Opened FaultAt)) (name : Naming) (names : List Naming) (s end : ℕ) (inside : Levels)
      (h : Follows (world_between known begun done) limit p k j (state_of begun) k1 j1 (state_of done)
      (Done (Ok (inside, end)))) where
    abbrev world : World
    world = world_between known first last

    opened_frame : MovesTo world Opens (state_of first) (state_of begun)
    opened_frame =
        moves_by (same_room first) (room_then call (room_then dropping leaving)) holds opens tt (λ adds. absurd adds.0)

    filled_frame : Follows world limit p k j (state_of begun) k1 j1 (state_of done) (Done (Ok (inside, end)))
    filled_frame = in_store opening call (room_then dropping leaving) h

    packs_as : moved (packs first.room) (PacksStruct stride) (state_of done)
        ≡ packed_state count stride (state_of first)
    packs_as = rw packing (ap (moved true (PacksStruct stride)) filled)

    pub frame_packs : HoldsInRoom last → IsLight last →
        state_of last ≡ packed_state count stride (state_of first) → {k2 j2 : ℕ} →
        k2 ≡ k1 → j2 ≡ j1 + 1 →
        Follows world limit (framed (levels nodes first) (then_ok p (struct_packs stride name names s))) k j
        (state_of first) k2 j2 (state_of last) (Done (Ok (struct_value name names s end inside)))
    frame_packs within light is ek ej =
        framed_ok (levels nodes first) (then_ok p (struct_packs stride name names s)) opened_frame
        (ends_made p (struct_packs stride name names s) (inside, end) (PacksStruct stride) (outer_of inside)
        (struct_value name names s end inside) refl filled_frame {limit1 = limit}
        (comes_by first {move = PacksStruct stride} (same_room last) within (is ∙ sym packs_as) tt
        (λ adds. light_in (room_then opening (room_then call (room_then dropping leaving))) light))
        refl ek ej)

    pub frame_lacks : {state' : State} → PassesRoom dropped (packed_state count stride (state_of first)) →
        Follows world limit (framed (levels nodes first) (then_ok p (struct_packs stride name names s))) k j
        (state_of first) k1 j1 state' NoRoom
    frame_lacks over =
        let v = Some (struct_value name names s end inside) in
        let passes = less_passes first dropped (packed_state count stride (state_of first))
        (room_then opening (room_then call dropping)) over in
        framed_no_room (levels nodes first) (then_ok p (struct_packs stride name names s)) opened_frame
        {mid = state_of last}
        (ends_no_room p (struct_packs stride name names s) (inside, end) (PacksStruct stride) (outer_of inside)
        (struct_value name names s end inside) refl filled_frame
        (record {
          takes = tt;
          least = packs_no_more first.room (pushed (outer_of inside) v) (pushed-some (outer_of inside) v) packing;
          before = refused passes;
        }))
      where
        refused : PassesRoom first (packed_state count stride (state_of first)) →
            RefusesMove world (PacksStruct stride) (state_of done)
        refused (inl over) = inl (
          over.0,
          subst (λ (x : State). of_vector over.0 first.capacity < of_vector over.0 x.now) (sym packs_as) over.1,
        )
        refused (inr heavy) =
            inr (subst (λ (x : State). RejectsWeight first.room (weight x.now)) (sym packs_as) heavy)

-- the struct of the numbers
pub struct_is : (nodes : List Node) (at : ℕ) (fs : List Field) (start end : ℕ) (digits : List ℕ)
    (inside outer : Levels) → names_at nodes at ≡ field_names (open_fields (type_of nodes) fs) →
    inside ≡ fields (shapes_of (type_of nodes) fs) start digits ∷ outer →
    end ≡ start + struct_bits (shapes_of (type_of nodes) fs) →
    struct_value (title_at nodes at) (field_names (open_fields (type_of nodes) fs)) start end inside
    ≡ struct_of nodes at (shapes_of (type_of nodes) fs) start digits
struct_is nodes at fs start end digits inside outer named is ends =
    ap (struct_value (title_at nodes at) (field_names (open_fields (type_of nodes) fs)) start end) is
    ∙ ap (λ ns. Mapped (StructLabel (title_at nodes at) ns) start end
    (gathered (fields (shapes_of (type_of nodes) fs) start digits))) (sym named)
    ∙ ap (λ e. Mapped (StructLabel (title_at nodes at) (names_at nodes at)) start e
    (gathered (fields (shapes_of (type_of nodes) fs) start digits))) ends
