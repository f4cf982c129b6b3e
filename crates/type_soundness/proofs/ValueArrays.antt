-- While an array is mapped whose elements a store packs as values of fixed layout, a vector grows by at most the
-- array's bound, whatever is read.
use Rattle.std.proofs.Common.{◌≡◌, ℕ, ◌+◌, ◌≤◌, Bool, true, false, ◌∷◌, Option, Some, Result, Ok, Err, refl, sym, ap, subst, arith}
use Rattle.std.proofs.lemmas.Bool.{le-leb}
use Rattle.bit_space.specs.declared.order.Order.{Order}
use Rattle.pickle_types.specs.Types.{PokeType}
use Rattle.pickle_types.specs.Bounds.{least_width, count_of}
use Rattle.pickle_meaning.specs.declared.extent.Extent.{Extent}
use Rattle.pickle_meaning.specs.Values.{Value, Levels, opened}
use Rattle.pickle_meaning.specs.Clauses.{FaultAt}
use Rattle.mapping_plans.specs.Plan.{Plan, in_row, then_ok}
use Rattle.mapping_plans.specs.Mapping.{then_packed, array_move, element_plan, elements_plan, array_closes, plan}
use Rattle.mapping_plans.specs.Rows.{Apart, Values, Layout, layout_of, row_of}
use Rattle.mapping_plans.proofs.Adding.{Any, IsAdded, element_adding}
use Rattle.mapping_plans.proofs.Always.{OfValue}
use Rattle.mapping_plans.proofs.Layouts.{IsLaidElement, element_laid}
use Rattle.mapping_plans.proofs.Stored.{Stores, at_end, at_tick, at_made, at_read, Leaves, weaker_stores, both_stores, ok_stores}
use Rattle.value_store.specs.Layouts.{template_size}
use Rattle.value_store.specs.Moves.{Opens, ClosesRow, State, moved, needed}
use Rattle.value_store.specs.Slots.{innermost, around}
use Rattle.value_store.specs.Takes.{Vector, NodesOf, FamiliesOf, LinksOf, PendingOf, TextsOf, BytesOf, of_vector, member_takes}
use Rattle.type_soundness.specs.Capacity.{array_bytes, fit_bytes, values_bound, capacity_bound}
use Rattle.type_soundness.proofs.Capacity.{capacity_enough}
use Rattle.type_soundness.proofs.LaidBounds.{AreLaidBounds, laid_bounds}
use Rattle.type_soundness.proofs.LaidYields.{IsInside, laid_yields}
use Rattle.type_soundness.proofs.PackedValues.{IsFewer, template_takes, HasValues, IsAfter, room_for, packed_value, value_elements, none_yet, closed_values}
use Rattle.type_soundness.proofs.Yields.{Yields, yields, on_tick, on_made, on_read, weaker, both_yields}

-- what holds of each result, whatever is stored
yields_stores : {A : Type 0} {Q : A → Type 0} (packing : Bool) {p : Plan A} → Yields Q p → (state : State) →
    Stores packing Apart Any (λ a last. Q a) p state
yields_stores packing (yields h) state = at_end h
yields_stores packing (on_tick h) state = at_tick (yields_stores packing h state)
yields_stores packing (on_made h) state = at_made tt (yields_stores packing h _)
yields_stores packing (on_read h) state = at_read (λ n. yields_stores packing (h n) state)

-- one more member of the innermost frame, and the vector grew by at most n
pub record IsMember (vector : Vector) (n : ℕ) (state last : State) : Type 0 where
  pub frames : last.frames ≡ state.frames
  pub few : of_vector vector last.now ≤ of_vector vector state.now + n
  pub one : last.now.pending ≡ state.now.pending + 1

-- a value of such a layout that is inside m bits
fit_is : (own : Option Layout) (l : Layout) (arrays m : ℕ) → own ≡ Some l → l.bits ≤ m →
    fit_bytes own arrays m ≡ arrays + l.bytes
fit_is own l arrays m e le = rw (e, le-leb l.bits m le) refl

-- what a template takes, which is as much as its value where nothing is packed
drafted : (vector : Vector) (apart : Vector → ℕ) (v : Value) → apart PendingOf ≡ apart NodesOf →
    member_takes false vector (Some v) ≤ apart vector → member_takes false NodesOf (Some v) ≤ apart NodesOf →
    template_takes vector (template_size v) ≤ apart vector
drafted NodesOf apart v places own nodes = omega (arith, own)
drafted FamiliesOf apart v places own nodes = omega (arith, own)
drafted LinksOf apart v places own nodes = omega (arith, own)
drafted PendingOf apart v places own nodes = omega (arith, places, nodes)
drafted TextsOf apart v places own nodes = omega arith
drafted BytesOf apart v places own nodes = omega arith

is_fewer : (vector : Vector) (each apart : Vector → ℕ) → AreLaidBounds each apart →
    IsFewer vector (each vector) (apart vector)
is_fewer NodesOf each apart h = h.nodes
is_fewer FamiliesOf each apart h = h.families
is_fewer LinksOf each apart h = h.links
is_fewer PendingOf each apart h = h.pending
is_fewer TextsOf each apart h = tt
is_fewer BytesOf each apart h = tt

module _ (vector : Vector) (b m : ℕ) (element : PokeType) (order : Order) (stride : ℕ)
    (row : row_of element ≡ Values stride) where
  abbrev each : ℕ
  each = capacity_bound true vector element m

  abbrev apart : ℕ
  apart = capacity_bound false vector element m

  abbrev fit : ℕ
  fit = fit_bytes (layout_of 0 element) (array_bytes element) m

  abbrev tries : ℕ
  tries = count_of m (least_width element)

  -- what the array takes
  abbrev all : ℕ
  all = values_bound vector tries apart each fit

  abbrev Has : (c : ℕ) → State → State → Type 0
  Has c state last = HasValues vector apart each fit c state last

  -- what is stored takes at most b
  abbrev Within : State → Type 0
  Within state = of_vector vector state.now ≤ b

  -- the plan of the type, which isn't packed yet
  abbrev MapsOne : Type 0
  MapsOne = (l : Levels) (at : ℕ) (now : State) → of_vector vector now.now + each ≤ b →
      Stores true Apart Within (Leaves (λ v last. of_vector vector last.now ≤ of_vector vector now.now + each)
      (λ last. last ≡ now)) (plan m element order l at) now

  abbrev laid : IsLaidElement element stride
  laid = element_laid element stride row

  bounds : AreLaidBounds (λ kind. capacity_bound true kind element m) (λ kind. capacity_bound false kind element m)
  bounds = laid_bounds m 0 element laid.layout laid.laid

  less : IsFewer vector each apart
  less = is_fewer vector (λ kind. capacity_bound true kind element m) (λ kind. capacity_bound false kind element m)
      bounds

  -- what is known of an element's value, whatever is stored
  record IsOne (at : ℕ) (v : Value) : Type 0 where
    own : member_takes false vector (Some v) ≤ apart
    nodes : member_takes false NodesOf (Some v) ≤ capacity_bound false NodesOf element m
    is : IsInside m laid.layout.bits (array_bytes element) at v

  all_known : (l : Levels) (at : ℕ) → Yields (OfValue (IsOne at)) (plan m element order l at)
  all_known l at = weaker told (both_yields (both_yields (capacity_enough vector m element order l at)
      (capacity_enough NodesOf m element order l at)) (laid_yields m 0 element laid.layout laid.laid order l at))
    where
      told : (r : Result Value FaultAt) →
          (OfValue (λ v. member_takes false vector (Some v) ≤ apart) r
          × OfValue (λ v. member_takes false NodesOf (Some v) ≤ capacity_bound false NodesOf element m) r)
          × OfValue (IsInside m laid.layout.bits (array_bytes element) at) r → OfValue (IsOne at) r
      told (Ok v) h = record { own = h.0.0; nodes = h.0.1; is = h.1 }
      told (Err f) h = tt

  after : (at : ℕ) (now : State) (r : Result Value FaultAt) (last : State) →
      (Leaves (λ v last. of_vector vector last.now ≤ of_vector vector now.now + each) (λ last. last ≡ now) r last
      × Leaves (IsAdded stride now) (λ last. last ≡ now) r last) × OfValue (IsOne at) r →
      Leaves (IsAfter vector apart each fit now) (λ last. last ≡ now) r last
  after at now (Ok v) last h =
      let one = h.1 in
      let ends = one.is.ends in
      let inside = one.is.inside in
      let arrays = one.is.few in
      let bytes = laid.bytes in
      let own = h.0.1.few in
      let fits = fit_is (layout_of 0 element) laid.layout (array_bytes element) m laid.laid
      (omega (arith, ends, inside)) in
      record {
        is = h.0.1.is;
        small = record {
          few = subst (λ (x : State). of_vector vector x.now ≤ of_vector vector now.now + each) h.0.1.is h.0.0;
          drafted = drafted vector (λ kind. capacity_bound false kind element m) v bounds.places one.own one.nodes;
          bytes = omega (arith, fits, arrays, own, bytes);
        };
      }
  after at now (Err f) last h = h.0.0

  module _ (maps : MapsOne) (state : State) (room : of_vector vector state.now + all ≤ b) where
    one_element : (c : ℕ) → c + 1 ≤ tries → (l : Levels) (at : ℕ) (now : State) → Has c state now →
        Stores true Apart Within (Leaves (λ v. Has (c + 1) state) (λ last. last ≡ now))
        (element_plan element (plan m element order) l at) now
    one_element c le l at now h =
        let few = room_for vector apart each fit tries less c le state now h in
        let own = maps l at now (omega (arith, few, room)) in
        let adds = element_adding m element stride row order l at now in
        let known = yields_stores true (all_known l at) now in
        let mapped = weaker_stores (after at now) (both_stores (both_stores own adds) known) in
        subst (λ kept.
        Stores true Apart Within (Leaves (λ v. Has (c + 1) state) (λ last. last ≡ now))
        (then_packed kept l (in_row kept (plan m element order l at))) now) (sym row)
        (packed_value vector apart each fit tries less b state room c le l now h mapped)

    pub value_array : (extent : Extent) (levels : Levels) (s : ℕ) →
        Stores true Apart Within
        (Leaves (λ v. IsMember vector all state) (λ last. last.frames ≡ state.now ∷ state.frames)) (then_ok
        (elements_plan (element_plan element (plan m element order)) m s extent tries 0 (opened levels) s)
        (array_closes element s)) (moved true Opens state)
    value_array extent levels s =
        ok_stores {P = λ r. Has tries state} {Q = λ v. IsMember vector all state}
        {E = λ last. last.frames ≡ state.now ∷ state.frames} _
        (λ r last h.
        let inner : innermost last.frames ≡ state.now = ap innermost h.frames in
        let c = closed_values vector apart each fit tries state.now last.now h.values in
        let a : IsMember vector all state (moved true ClosesRow last) =
        rw inner (record { frames = ap around h.frames; few = c.few; one = c.one }) in
        let few = a.few in
        let here : of_vector vector (needed true ClosesRow last).now ≤ b = omega (arith, few, room) in
        let move : ClosesRow ≡ array_move (row_of element) = sym (ap array_move row) in
        at_made (subst (λ own. of_vector vector (needed true own last).now ≤ b) move here)
        (at_end (subst (λ own. IsMember vector all state (moved true own last)) move a)))
        (value_elements vector apart each fit tries less b state room m s extent
        (element_plan element (plan m element order)) one_element tries 0 0 (opened levels) s
        (moved true Opens state) (none_yet vector apart each fit state) (omega arith))
