-- Steps of a search, call by call.
use Rattle.std.proofs.Common.{◌≡◌, ℕ, zero, suc, ◌+◌, ◌-◌, ◌*◌, ◌<◌, ◌≤◌, length, Bool, true, false, List, [], Option, Some, None, Result, Ok, Err, refl, option_map, sym, ap, ◌∙◌, subst, arith}
use Rattle.std.specs.Prelude.{IfErr, IfOk, ◌≢◌, nat_eq}
use Rattle.std.proofs.lemmas.Bool.{le-leb, ne_eqb}
use Rattle.bit_space.specs.declared.meter.Meter.{Meter}
use Rattle.bit_space.specs.declared.order.Order.{Order}
use Rattle.bit_space.specs.Bits.{bits_of}
use Rattle.bit_space.specs.SpaceView.{SpaceView, IsWhole, HasRisen}
use Rattle.bit_space.proofs.Digits.{length-bits_of}
use Rattle.bit_space.proofs.Failures.{risen_later}
use Rattle.pickle_types.specs.declared.node.Extent.{Extent as Extents}
use Rattle.pickle_types.specs.declared.node.Field.{Field}
use Rattle.pickle_types.specs.declared.node.Node.{Node}
use Rattle.pickle_types.specs.declared.node.Part.{Part as Alternative}
use Rattle.pickle_types.specs.declared.integer.IntegerType.{IntegerType}
use Rattle.pickle_types.specs.Types.{Term, Bound, PokeType, ArrayOf, StructOf, IntegralOf, UnionOf, Fields, Parts}
use Rattle.pickle_types.specs.Table.{type_of, optional_term, bound_of}
use Rattle.pickle_meaning.specs.declared.extent.Extent.{Extent}
use Rattle.pickle_meaning.specs.Values.{Naming, Value, end_of, Levels, pushed, opened}
use Rattle.pickle_meaning.specs.Clauses.{FaultAt, clause_steps, condition, field_start, label_steps, extent_of, bound_steps, is_due, ends_before, misses}
use Rattle.pickle_meaning.specs.Means.{ordered, Means, NumberMeans, number_type, width_in, first_digits}
use Rattle.mapping_plans.specs.Mapping.{plan, number_plan}
use Rattle.mapping_plans.specs.Plan.{Plan, Ended as Done_with, Tick, Made, Read, result_of, steps_of}
use Rattle.pickle_map.specs.declared.mapper.stop.Stop.{Stop}
use Rattle.pickle_map.specs.declared.mapper.stop.Stop.TheVariants.{Fault, Limit, Device, Memory}
use Rattle.pickle_map.specs.Calls.{Maps, Places, as_type}
use Rattle.pickle_map.specs.Framed.{StopsReading}
use Rattle.pickle_map.specs.Follows.{World, Follows, Done, NoSteps, NeedsStep}
use Rattle.pickle_map.specs.Settles.{Settles}
use Rattle.pickle_map.proofs.Followed.{walk_leaves}
use Rattle.value_store.specs.Moves.{State}
use Rattle.value_store.specs.Slots.{Held, levels}
use Rattle.fault_parts.specs.Somehow.{Somehow}
use Rattle.fault_parts.proofs.Once as once
use Rattle.fault_location.specs.declared.site.Ended.{Ended}
use Rattle.fault_location.specs.declared.site.Ended.TheVariants as ended
use Rattle.fault_location.specs.declared.site.Tried.{Tried}
use Rattle.fault_location.specs.declared.site.Tried.TheVariants as tried
use Rattle.fault_location.specs.Ways.{OnBits, KeepsMeant, field_then, part_then}
use Rattle.fault_location.specs.Digits.{KeepsNumber, PassesNumber}
use Rattle.fault_location.specs.declared.part.Array.{Array}
use Rattle.fault_location.specs.declared.part.Elements.{Elements}
use Rattle.fault_location.specs.declared.site.Inner.{Inner}
use Rattle.fault_location.specs.declared.site.Site.{Site}
use Rattle.fault_location.specs.declared.site.Site.TheVariants as site
use Rattle.fault_location.specs.Parts.{IsArrayAt}
use Rattle.fault_location.specs.Sites.{TriesAs, IsRefused, IsFaulty, ReadsSite, IsSmallSite}
use Rattle.fault_location.specs.Searched.{Stops, Spends, Ends, Searches, SpendsReading, SpendsAlone, SearchesReading, stop_of, part_steps, number_steps, field_left, digits_search, number_search, fields_search, alternatives_search, search_of, search_in, search_among, site_left, elements_search}
use Rattle.fault_location.proofs.Located.{result_is}

-- ---- calls of the mapper

one_step : (bits : List ℕ) {A : Type 0} (p : Plan A) → NeedsStep p → 1 ≤ steps_of bits p
one_step bits (Done_with a) h = absurd h
one_step bits (Tick p) h = omega arith
one_step bits (Made count move levels p) h = absurd h
one_step bits (Read place width order rest) h = absurd h

module _ {world : World} {limit : ℕ} (bits : List ℕ) (known : world.known ≡ Some bits) {A : Type 0} {p : Plan A}
    {k j k' j' : ℕ} {state state' : State} where
  done_steps : {a : A} → Follows world limit p k j state k' j' state' (Done a) → k' ≡ k + steps_of bits p
  done_steps h =
      let l = walk_leaves bits known h.walk in
      let e : steps_of bits h.rest ≡ 0 = ap (steps_of bits) h.ends.0 in
      omega (arith, l.steps, e)

  limit_steps : Follows world limit p k j state k' j' state' NoSteps → limit < k + steps_of bits p
  limit_steps h =
      let l = walk_leaves bits known h.walk in
      let some = one_step bits h.rest h.ends.0 in
      omega (arith, l.steps, some, h.ends.1)

module _ (nodes : List Node) (space space' : SpaceView) (meter meter' : Meter) (store store' : Held) (at : ℕ)
    (order : Order) (s : ℕ) (whole : IsWhole space) where
  pub mapped_spends : (result : Result ℕ Stop) → Maps nodes space meter meter' store store' (as_type at order s) result
      → IfErr result (λ stop. stop ≡ Device → HasRisen space.failures space'.failures)
      → OnBits space (λ bits. SpendsReading space space' meter meter' result
      (steps_of bits (plan (length bits) (type_of nodes at) order (levels nodes store) s)))
  mapped_spends (Ok end) h device bytes e =
      let len = ap (λ n. 8 * n) (sym (whole bytes e)) ∙ sym (length-bits_of bytes) in
      let follows = rw len at h.follows in
      done_steps (bits_of bytes) (ap (option_map bits_of) e) follows
  mapped_spends (Err (Fault kind place)) h device bytes e =
      let len = ap (λ n. 8 * n) (sym (whole bytes e)) ∙ sym (length-bits_of bytes) in
      let follows = rw len at h in
      done_steps (bits_of bytes) (ap (option_map bits_of) e) follows
  mapped_spends (Err Limit) h device bytes e =
      let len = ap (λ n. 8 * n) (sym (whole bytes e)) ∙ sym (length-bits_of bytes) in
      let follows = rw len at h in
      limit_steps (bits_of bytes) (ap (option_map bits_of) e) follows
  mapped_spends (Err Device) h device bytes e = device refl
  mapped_spends (Err Memory) h device bytes e = tt

pub placed_spends : (nodes : List Node) (meter meter' : Meter) (store store' : Held) (ty : PokeType) (digits start : ℕ)
    (result : Result (Unit {0}) Stop) → Places nodes meter meter' store store' ty digits start result
    → IfErr result (λ stop. stop ≢ Device)
    → SpendsAlone meter meter' result (steps_of [] (number_plan ty digits (levels nodes store) start))
placed_spends nodes meter meter' store store' ty digits start (Ok u) h device = done_steps [] refl (h (Some [])).follows
placed_spends nodes meter meter' store store' ty digits start (Err (Fault kind place)) h device =
    done_steps [] refl (h (Some []))
placed_spends nodes meter meter' store store' ty digits start (Err Limit) h device = limit_steps [] refl (h (Some []))
placed_spends nodes meter meter' store store' ty digits start (Err Device) h device = device refl
placed_spends nodes meter meter' store store' ty digits start (Err Memory) h device = tt

-- a clause that settled
pub settled_spends : {A : Type 0} (limit before after steps : ℕ) (result : Result A Stop) (o : Result A FaultAt) →
    Settles limit before after result o steps → Spends ⊥ limit before after result steps
settled_spends limit before after steps (Ok x) o h = h.1
settled_spends limit before after steps (Err (Fault kind place)) o h = h.1
settled_spends limit before after steps (Err Limit) o h = h.1
settled_spends limit before after steps (Err Device) o h = h
settled_spends limit before after steps (Err Memory) o h = tt

-- the same, with some steps before it
pub spends_later : {A : Type 0} (D : Type 0) (limit limit' before before' after n n' : ℕ) (result : Result A Stop) →
    limit ≡ limit' → before + n ≡ before' + n' → Spends D limit before after result n →
    Spends D limit' before' after result n'
spends_later D limit limit' before before' after n n' (Ok x) el e h = omega (arith, e, h)
spends_later D limit limit' before before' after n n' (Err (Fault kind place)) el e h = omega (arith, e, h)
spends_later D limit limit' before before' after n n' (Err Limit) el e h = omega (arith, el, e, h)
spends_later D limit limit' before before' after n n' (Err Device) el e h = h
spends_later D limit limit' before before' after n n' (Err Memory) el e h = h

-- ---- a search that ends

-- by a stop
pub stop_ends : {D D' : Type 0} (limit limit' before before' after n whole : ℕ) (stop : Stop) (e : Ended)
    → stop ≡ stop_of e → (D → D') → limit ≡ limit' → before + n ≤ before' + whole
    → Stops D limit before after n stop → Ends D' limit' before' whole e
stop_ends limit limit' before before' after n whole stop ended.Limit is device el le h =
    let h = rw is at h in omega (arith, el, le, h)
stop_ends limit limit' before before' after n whole stop ended.Device is device el le h = let h = rw is at h in device h
stop_ends limit limit' before before' after n whole stop ended.Memory is device el le h = tt

-- by a search in it
pub search_ends : {D D' : Type 0} (limit limit' before before' n whole : ℕ) (e : Ended) → (D → D') → limit ≡ limit' →
    before + n ≤ before' + whole → Ends D limit before n e → Ends D' limit' before' whole e
search_ends limit limit' before before' n whole ended.Limit device el le h = omega (arith, el, le, h)
search_ends limit limit' before before' n whole ended.Device device el le h = device h
search_ends limit limit' before before' n whole ended.Memory device el le h = tt

-- by a call over the space as it was left
pub later_ends : (space now after : SpaceView) (meter meter1 : Meter) (n whole : ℕ) (e : Ended)
    → space.failures ≤ now.failures → now.failures ≤ after.failures → meter1.limit ≡ meter.limit
    → meter1.steps + n ≤ meter.steps + whole
    → Ends (HasRisen now.failures after.failures) meter1.limit meter1.steps n e
    → Ends (HasRisen space.failures after.failures) meter.limit meter.steps whole e
later_ends space now after meter meter1 n whole e f g el le h = search_ends meter1.limit meter.limit meter1.steps
    meter.steps n whole e (risen_later space.failures now.failures after.failures f g) el le h

-- a search by all its results, of the same steps
pub searches_later : {A D D' : Type 0} (limit limit' before before' after n whole : ℕ) (left left' : A → ℕ)
    (result : Result A Ended) → (D → D') → limit ≡ limit' → before + n ≤ before' + whole → ((a : A) → left' a ≤ left a)
    → Searches D limit before after n left result → Searches D' limit' before' after whole left' result
searches_later limit limit' before before' after n whole left left' (Ok a) device el le less h =
    let l = less a in omega (arith, le, l, h)
searches_later limit limit' before before' after n whole left left' (Err e) device el le less h =
    search_ends limit limit' before before' n whole e device el le h

-- ---- a part and its constraint

module _ (bits : List ℕ) (ty : PokeType) (c : Option Term) (order : Order) (levels : Levels) (s : ℕ) where
  abbrev pub type_steps : ℕ
  type_steps = steps_of bits (plan (length bits) ty order levels s)

  pub type_least : type_steps ≤ part_steps bits ty c order levels s
  type_least = omega arith

  pub value_least : {levels' : Levels} {end : ℕ} → KeepsMeant (Means bits ty order levels s) levels levels' end →
      type_steps + clause_steps c levels' ≤ part_steps bits ty c order levels s
  value_least h = rw (h.keeps, result_is h.means) (omega arith)

-- the same of a number
module _ (ty : PokeType) (c : Option Term) (n : ℕ) (levels : Levels) (s : ℕ) where
  pub digits_least : 1 + steps_of [] (number_plan ty n levels s) ≤ number_steps ty c n levels s
  digits_least = omega arith

  pub number_least : {levels' : Levels} → KeepsNumber ty n s levels levels' →
      1 + steps_of [] (number_plan ty n levels s) + clause_steps c levels' ≤ number_steps ty c n levels s
  number_least h = rw (h.keeps, once.number_result h.means.holds) (omega arith)

-- ---- fields

module _ (bits : List ℕ) (nodes : List Node) (pinned : Bool) (s : ℕ) (order : Order) (f : Field) (levels : Levels)
    (behind : ℕ) (rest : Fields) where
  abbrev pub fields_from : ℕ
  fields_from = fields_search bits pinned s (field_then nodes f rest) order levels behind

  abbrev pub when_steps : ℕ
  when_steps = clause_steps (optional_term f.condition) levels

  abbrev pub start_steps : ℕ
  start_steps = label_steps pinned (optional_term f.label) levels

  pub when_least : when_steps ≤ fields_from
  when_least = omega arith

  pub absent_after : condition (optional_term f.condition) levels s ≡ Ok false →
      when_steps + fields_search bits pinned s rest order (pushed levels None) behind ≤ fields_from
  absent_after c = rw c (omega arith)

  pub label_least : condition (optional_term f.condition) levels s ≡ Ok true → when_steps + start_steps ≤ fields_from
  label_least c = rw c (omega arith)

  module _ (p : ℕ) (c : condition (optional_term f.condition) levels s ≡ Ok true)
      (st : field_start pinned (optional_term f.label) levels s behind ≡ Ok p) where
    abbrev pub its_steps : ℕ
    its_steps = part_steps bits (type_of nodes f.node) (optional_term f.constraint) (ordered f.order order) levels p

    field_least : when_steps + start_steps + its_steps ≤ fields_from
    field_least = rw (c, st) (omega arith)

    field_after : (levels' : Levels) (found : Tried)
        → TriesAs bits (type_of nodes f.node) (optional_term f.constraint) (ordered f.order order)
        levels levels' p found
        → when_steps + start_steps + its_steps + field_left bits nodes pinned s order f rest levels' found ≤ fields_from
    field_after levels' (tried.Passed end) h = rw (h.keeps, ← h.ends, c, st, result_is h.means, h.holds) (omega arith)
    field_after levels' (tried.Beside fault) h = rw (c, st, result_is h.means, h.refused) (omega arith)
    field_after levels' (tried.Inside at fault) h = rw (h.keeps, h.there, c, st, result_is h.means) (omega arith)

    -- a field was tried, after its condition and its label
    pub field_searched : {D D' : Type 0} (levels' : Levels) (limit limit' m0 m1 m2 m3 : ℕ) (result : Result Tried Ended)
        → (D → D') → limit ≡ limit' → m1 ≡ m0 + when_steps → m2 ≡ m1 + start_steps
        → IfOk result
        (TriesAs bits (type_of nodes f.node) (optional_term f.constraint) (ordered f.order order) levels levels' p)
        → Searches D limit m2 m3 its_steps (λ x. 0) result
        → Searches D' limit' m0 m3 fields_from (field_left bits nodes pinned s order f rest levels') result
    field_searched levels' limit limit' m0 m1 m2 m3 (Ok found) device el e1 e2 tries h =
        let a = field_after levels' found tries in omega (arith, e1, e2, a, h)
    field_searched levels' limit limit' m0 m1 m2 m3 (Err e) device el e1 e2 tries h =
        let a = field_least in
        search_ends limit limit' m2 m0 its_steps fields_from e device el (omega (arith, e1, e2, a)) h

-- ---- alternatives

module _ (bits : List ℕ) (nodes : List Node) (p : Alternative) (order : Order) (levels levels' : Levels) (s : ℕ)
    (rest : Parts) where
  abbrev pub alternatives_from : ℕ
  alternatives_from = alternatives_search bits (part_then nodes p rest) order levels s

  abbrev pub attempt_steps : ℕ
  attempt_steps = part_steps bits (type_of nodes p.node) (optional_term p.constraint) (ordered p.order order) levels s

  pub attempt_least : attempt_steps ≤ alternatives_from
  attempt_least = omega arith

  module _ (x : FaultAt) where
    pub refused_after : IsRefused bits (type_of nodes p.node) (optional_term p.constraint) (ordered p.order order)
        levels s x → misses x.0 ≡ true
        → attempt_steps + alternatives_search bits rest order levels s ≤ alternatives_from
    refused_after h missed = rw (result_is h.means, h.refused, missed) (omega arith)

    pub faulty_after : (at : ℕ)
        → IsFaulty bits (type_of nodes p.node) (ordered p.order order) levels levels' s at x → misses x.0 ≡ true
        → attempt_steps + alternatives_search bits rest order levels s ≤ alternatives_from
    faulty_after at h missed = rw (result_is h.means, missed) (omega arith)

    pub inside_after : (at : ℕ) → IsFaulty bits (type_of nodes p.node) (ordered p.order order) levels levels' s at x
        → misses x.0 ≡ false
        → attempt_steps + search_of bits (type_of nodes p.node) (ordered p.order order) levels' s ≤ alternatives_from
    inside_after at h other = rw (h.keeps, result_is h.means, other) (omega arith)

-- ---- elements

-- the search among elements, after the first i
abbrev pub among : List ℕ → PokeType → Order → (s : ℕ) → Extent → (n i : ℕ) → Levels → (place : ℕ) → ℕ
among bits ty order s extent n i levels place =
    elements_search (λ inside p. steps_of bits (plan (length bits) ty order inside p))
    (λ inside p. result_of bits (plan (length bits) ty order inside p)) (search_of bits ty order) (length bits) s
    extent n i levels place

module _ (bits : List ℕ) (ty : PokeType) (order : Order) (s : ℕ) (extent : Extent) (inside : Levels) (n i p : ℕ)
    (due : is_due extent (length bits) s i p ≡ true) where
  abbrev pub one_more : ℕ
  one_more = steps_of bits (plan (length bits) ty order inside p)

  pub among_least : one_more ≤ among bits ty order s extent (suc n) i inside p
  among_least = rw due (omega arith)

  pub among_next : (v : Value) → Somehow (Means bits ty order inside p (Ok v)) → p < end_of v →
      one_more + among bits ty order s extent n (i + 1) (pushed inside (Some v)) (end_of v)
      ≤ among bits ty order s extent (suc n) i inside p
  among_next v m lt =
      let other : nat_eq (end_of v) p ≡ false = ne_eqb (end_of v) p (λ e. absurd (omega (arith, e, lt))) in
      rw (due, result_is m, other) (omega arith)

  pub among_inside : (x : FaultAt) → Somehow (Means bits ty order inside p (Err x)) → ends_before extent x.0 ≡ false →
      one_more + search_of bits ty order inside p ≤ among bits ty order s extent (suc n) i inside p
  among_inside x m goes = rw (due, result_is m, goes) (omega arith)

-- ---- types

module _ (bits : List ℕ) (order : Order) (levels : Levels) (s : ℕ) (here : s ≤ length bits) where
  pub struct_search : (name : Naming) (pinned : Bool) (all : Fields) →
      search_of bits (StructOf name pinned all) order levels s ≡ fields_search bits pinned s all order (opened levels) s
  struct_search name pinned all = rw (le-leb s (length bits) here) refl

  pub union_search : (name : Naming) (alternatives : Parts) → search_of bits (UnionOf name alternatives) order levels s
      ≡ alternatives_search bits alternatives order (opened levels) s
  union_search name alternatives = rw (le-leb s (length bits) here) refl

  pub array_search : (ty : PokeType) (bound : Bound) (extent : Extent) → extent_of bound levels s ≡ Ok extent
      → bound_steps bound levels + among bits ty order s extent (suc (length bits)) 0 (opened levels) s
      ≤ search_of bits (ArrayOf ty bound) order levels s
  array_search ty bound extent e = rw (le-leb s (length bits) here, e) (omega arith)

  pub bound_search : (ty : PokeType) (bound : Bound) →
      bound_steps bound levels ≤ search_of bits (ArrayOf ty bound) order levels s
  bound_search ty bound = rw (le-leb s (length bits) here) (omega arith)

-- an array that is a type of a table
pub array_searched : (bits : List ℕ) (nodes : List Node) (before : Levels) (inner : Inner) (element : ℕ)
    (bound : Extents) (array : Array)
    → IsArrayAt inner element bound array → type_of nodes inner.node ≡ ArrayOf (type_of nodes element) (bound_of bound)
    → search_in bits nodes before inner
    ≡ search_of bits (ArrayOf (type_of nodes array.element) (bound_of array.bound.now)) array.order before array.start
array_searched bits nodes before inner element bound array is e =
    let same : type_of nodes inner.node ≡ ArrayOf (type_of nodes array.element) (bound_of array.bound.now) =
    rw (is.element_is, is.bound_is) e in
    ap (λ order. search_of bits (type_of nodes inner.node) order before inner.start) (sym is.order_is)
    ∙ ap (λ start. search_of bits (type_of nodes inner.node) array.order before start) (sym is.start_is)
    ∙ ap (λ ty. search_of bits ty array.order before array.start) same

-- an array, by its elements
pub array_least : (bits : List ℕ) (nodes : List Node) (levels inside : Levels) (all now : Elements) → all ≡ now
    → inside ≡ opened levels → now.start ≤ length bits → (bound : Bound)
    → extent_of bound levels now.start ≡ Ok now.extent
    → bound_steps bound levels + search_among bits nodes inside all
    ≤ search_of bits (ArrayOf (type_of nodes now.element) bound) now.order levels now.start
array_least bits nodes levels inside all now are opens here bound e =
    let whole = search_of bits (ArrayOf (type_of nodes now.element) bound) now.order levels now.start in
    subst (λ (a : Elements). bound_steps bound levels + search_among bits nodes inside a ≤ whole) (sym are)
    (subst (λ (l : Levels). bound_steps bound levels + search_among bits nodes l now ≤ whole) (sym opens)
    (array_search bits now.order levels now.start here (type_of nodes now.element) bound now.extent e))

-- an integral struct that was read as a number
site_read_left : (bits : List ℕ) (nodes : List Node) (levels : Levels) (whole : Inner) (name : Naming)
    (number : IntegerType) (fields : Parts) → whole.start ≤ length bits
    → type_of nodes whole.node ≡ IntegralOf name number fields → (found : Site) → IsSmallSite whole found
    → ReadsSite whole number found bits → 1 + site_left bits nodes levels found ≤ search_in bits nodes levels whole
site_read_left bits nodes levels whole name number fields here kind site.Itself small h =
    rw (kind, le-leb whole.start (length bits) here) (omega arith)
site_read_left bits nodes levels whole name number fields here kind (site.Beside place) small h = absurd h
site_read_left bits nodes levels whole name number fields here kind (site.Inside place inner) small h = absurd h
site_read_left bits nodes levels whole name number fields here kind (site.Number cut) small h =
    rw (
      small.0,
      small.1,
      h.1,
      kind,
      le-leb whole.start (length bits) here,
      le-leb (whole.start + number.width) (length bits) h.0,
    ) (omega arith)

pub if_read_search : (D : Type 0) (limit before after : ℕ) (bits : List ℕ) (nodes : List Node) (levels : Levels)
    (whole : Inner) (name : Naming) (number : IntegerType) (fields : Parts) → whole.start ≤ length bits
    → type_of nodes whole.node ≡ IntegralOf name number fields → (result : Result Site Ended)
    → IfOk result (IsSmallSite whole) → IfOk result (λ found. ReadsSite whole number found bits)
    → Searches D limit before after 1 (λ x. 0) result
    → Searches D limit before after (search_in bits nodes levels whole) (site_left bits nodes levels) result
if_read_search D limit before after bits nodes levels whole name number fields here kind (Ok found) small reads h =
    let l = site_read_left bits nodes levels whole name number fields here kind found small reads in omega (arith, l, h)
if_read_search D limit before after bits nodes levels whole name number fields here kind (Err x) small reads h =
    let least : 1 ≤ search_in bits nodes levels whole =
    rw (kind, le-leb whole.start (length bits) here) (omega arith) in
    search_ends limit limit before before 1 (search_in bits nodes levels whole) x (λ (d : D). d) refl
    (omega (arith, least)) h

-- a place was added to a path at the end of a search
pub kept_ends : (D : Type 0) (limit before after whole : ℕ) (result : Result (Unit {0}) Ended) →
    IfErr result (λ e. e ≡ ended.Memory) → after + 0 ≤ before + whole →
    Searches D limit before after whole (λ x. 0) result
kept_ends D limit before after whole (Ok u) is le = le
kept_ends D limit before after whole (Err e) is le = rw is tt

-- one more element was mapped
pub among_go : (bits : List ℕ) (ty : PokeType) (order : Order) (s : ℕ) (extent : Extent) (inside : Levels) (n i p : ℕ)
    → n + i ≡ length bits → i < length bits → is_due extent (length bits) s i p ≡ true
    → (v : Value) → Somehow (Means bits ty order inside p (Ok v)) → p < end_of v → (now later most : ℕ)
    → now + among bits ty order s extent (suc n) i inside p ≤ most
    → later ≡ now + steps_of bits (plan (length bits) ty order inside p)
    → (left : ℕ) × (left + (i + 1) ≡ length bits)
    × (later + among bits ty order s extent (suc left) (i + 1) (pushed inside (Some v)) (end_of v) ≤ most)
among_go bits ty order s extent inside zero i p e few due v m lt now later most spent took =
    absurd (omega (arith, e, few))
among_go bits ty order s extent inside (suc k) i p e few due v m lt now later most spent took =
    let a = among_next bits ty order s extent inside (suc k) i p due v m lt in
    (k, omega (arith, e), omega (arith, a, spent, took))

-- a fact of what a call found, where the bytes are known
pub on_known : {A E : Type 0} (space : SpaceView) (P : A → List ℕ → Type 0) (result : Result A E) →
    IfOk result (λ found. OnBits space (P found)) → (bytes : List ℕ) → space.bytes ≡ Some bytes →
    IfOk result (λ found. P found (bits_of bytes))
on_known space P (Ok found) h bytes known = h bytes known
on_known space P (Err e) h bytes known = tt

-- a read that stopped
pub read_ends : (start end : ℕ) (before after : SpaceView) (meter meter' : Meter) (stop : Stop) (e : Ended)
    → stop ≡ stop_of e → StopsReading start end before after meter meter' stop
    → Ends (HasRisen before.failures after.failures) meter.limit meter.steps 1 e
read_ends start end before after meter meter' stop ended.Limit is h = let h = rw is at h in omega (arith, h.0)
read_ends start end before after meter meter' stop ended.Device is h = let h = rw is at h in h.2
read_ends start end before after meter meter' stop ended.Memory is h = tt

-- the search goes on in a part that was found, over the space as it was left
pub in_turn : (space now after : SpaceView) (meter meter1 meter2 : Meter) (n whole : ℕ)
    (result : Result (Unit {0}) Ended) → space.failures ≤ now.failures → now.failures ≤ after.failures
    → meter1.limit ≡ meter.limit → meter1.steps + n ≤ meter.steps + whole
    → SearchesReading now after meter1 meter2 n (λ x. 0) result
    → SearchesReading space after meter meter2 whole (λ x. 0) result
in_turn space now after meter meter1 meter2 n whole (Ok u) f g el le h = omega (arith, le, h)
in_turn space now after meter meter1 meter2 n whole (Err e) f g el le h =
    later_ends space now after meter meter1 n whole e f g el le h

-- what a call that reads nothing says of reads
pub none_of : {D : Type 0} → ⊥ → D
none_of h = absurd h

-- or in a number that was read
pub in_number : (D : Type 0) (limit limit1 before m1 m2 n whole : ℕ) (result : Result (Unit {0}) Ended) →
    limit1 ≡ limit → m1 + n ≤ before + whole → Searches ⊥ limit1 m1 m2 n (λ x. 0) result →
    Searches D limit before m2 whole (λ x. 0) result
in_number D limit limit1 before m1 m2 n whole (Ok u) el le h = omega (arith, le, h)
in_number D limit limit1 before m1 m2 n whole (Err e) el le h =
    search_ends limit1 limit m1 before n whole e none_of el le h

-- ---- fields of a number

module _ (nodes : List Node) (n s left cut w : ℕ) (p : Alternative) (rest : Parts) (inside : Levels)
    (ew : w ≡ width_in (number_type (type_of nodes p.node))) (ec : cut ≡ first_digits n left w) where
  abbrev pub digits_from : ℕ
  digits_from = digits_search (part_then nodes p rest) n left inside s

  abbrev pub cut_steps : ℕ
  cut_steps = number_steps (type_of nodes p.node) (optional_term p.constraint) cut inside s

  pub field_number_least : cut_steps ≤ digits_from
  field_number_least = rw (ec, ew) (omega arith)

  pub digits_after : (inside' : Levels) → PassesNumber nodes cut s p inside inside' →
      cut_steps + digits_search rest n (left - width_in (number_type (type_of nodes p.node))) inside' s ≤ digits_from
  digits_after inside' m =
      let means = rw (ec, ew) at m.means.holds in
      rw (m.keeps, ec, ew, once.number_result means, m.holds) (omega arith)

  pub number_inside : {x : FaultAt} (inside' : Levels)
      → Somehow (NumberMeans (type_of nodes p.node) cut inside s (Err x)) → inside' ≡ inside
      → cut_steps + number_search (type_of nodes p.node) cut inside' s ≤ digits_from
  number_inside inside' m e =
      let means = rw (ec, ew) at m.holds in
      rw (e, ec, ew, once.number_result means) (omega arith)
