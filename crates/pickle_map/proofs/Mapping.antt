-- Calls that follow the plans of structs, arrays and unions.
use Rattle.std.proofs.Common.{◌≡◌, ℕ, zero, suc, ◌+◌, ◌*◌, ◌/◌, ◌<◌, ◌≤◌, max, Bool, true, false, List, [], ◌∷◌, Option, Some, None, Result, Ok, Err, refl, sym, ◌∙◌, arith}
use Rattle.std.proofs.Math.Nat.{suc-mul, add-mul, lt-div-mul-add}
use Rattle.std.proofs.lemmas.Bool.{le-leb, eq-eqb, ne_eqb, false≢true}
use Rattle.bit_space.specs.declared.order.Order.{Order}
use Rattle.pickle_types.specs.declared.node.Field.{Field}
use Rattle.pickle_types.specs.declared.node.Part.{Part}
use Rattle.pickle_types.specs.Types.{Term, PokeType, IntegerOf, OffsetOf, StringOf, ArrayOf, StructOf, IntegralOf, UnionOf, Bound, Fields, Parts}
use Rattle.pickle_types.specs.declared.integer.IntegerType.{IntegerType}
use Rattle.pickle_types.specs.Bounds.{least_width, count_of}
use Rattle.pickle_types.specs.Table.{optional_term, open_fields, open_parts, name_of}
use Rattle.pickle_meaning.specs.declared.extent.Extent.{Extent}
use Rattle.pickle_meaning.specs.declared.faults.MapFaultKind.TheVariants.{End, Bounds, Constraint, NoBits}
use Rattle.pickle_map.specs.declared.mapper.stop.Stop.{Stop}
use Rattle.pickle_map.specs.declared.mapper.stop.Stop.TheVariants.{Fault, Limit, Device, Memory}
use Rattle.pickle_meaning.specs.Values.{Naming, Value, end_of, Levels, pushed, opened, outer_of}
use Rattle.pickle_meaning.specs.Clauses.{FaultAt, condition, field_start, clause_steps, label_steps, extent_of, bound_steps, is_due, is_met}
use Rattle.pickle_map.specs.Settles.{Settles}
use Rattle.pickle_meaning.specs.Means.{ordered, number_type, field_names, array_value, struct_value, Taken, union_value, Opened}
use Rattle.value_store.specs.Moves.{Clears, Leaves, Closes, State}
use Rattle.mapping_plans.specs.Plan.{Plan, Tick, and_then, after, then_ok, framed}
use Rattle.pickle_map.specs.Follows.{World, MovesTo, LacksRoom, Finish, Done, NoSteps, Broken, NoRoom, Partly, Follows}
use Rattle.mapping_plans.specs.Rows.{row_of}
use Rattle.mapping_plans.specs.Mapping.{from_inside, read_plan, text_plan, plan, fields_plan, element_plan, elements_plan, alternatives_plan, after_element, after_attempt, constrained, array_move, array_closes, struct_closes, union_closes}
use Rattle.pickle_map.specs.Stops.{stop_finish, stop_misses, stop_ends}
use Rattle.pickle_map.proofs.Clauses.{settles_ok, settles_stop}
use Rattle.pickle_map.proofs.Walks.{follow_done, follow_here, follow_at, follow_tick, follow_no_tick, follow_made, follow_no_room, follow_then, follow_then_ok, follow_stop, follow_and_no_steps, follow_and_broken, follow_and_no_room, follow_inside, follow_past, ends_no_room, ends_made}

-- ---- a type whose start is inside

module _ {world : World} {limit : ℕ} {A : Type 0} (m s : ℕ) (p : Plan (Result A FaultAt)) (inside : s ≤ m)
    {k j k1 j1 : ℕ} {state : State} where
  pub inside_no_tick : {state' : State} → k1 ≡ k → k1 ≡ limit → j1 ≡ j →
      Follows world limit (from_inside m s (Tick p)) k j state k1 j1 state' NoSteps
  inside_no_tick ek el ej = follow_inside m s (Tick p) inside (follow_no_tick ek el ej)

  pub inside_ticks : {limit1 k' j' : ℕ} {state' : State} {finish : Finish (Result A FaultAt)} → limit1 ≡ limit →
      k1 ≡ k + 1 → j1 ≡ j → Follows world limit1 p k1 j1 state k' j' state' finish →
      Follows world limit (from_inside m s (Tick p)) k j state k' j' state' finish
  inside_ticks el ek ej h = follow_inside m s (Tick p) inside (follow_tick el ek ej h)

-- a start after the last bit
pub plan_past : {world : World} {limit : ℕ} (m : ℕ) (ty : PokeType) (order : Order) (levels : Levels) (s : ℕ) {k j : ℕ}
    {state : State} → m < s → Follows world limit (plan m ty order levels s) k j state k j state (Done (Err (End, s)))
unfolding plan
plan_past m (IntegerOf type) order levels s past = follow_past m s _ past
plan_past m (OffsetOf type unit) order levels s past = follow_past m s _ past
plan_past m StringOf order levels s past = follow_past m s _ past
plan_past m (ArrayOf element bound) order levels s past = follow_past m s _ past
plan_past m (StructOf name pinned _) order levels s past = follow_past m s _ past
plan_past m (IntegralOf name type _) order levels s past = follow_past m s _ past
plan_past m (UnionOf name alternatives) order levels s past = follow_past m s _ past

-- the plan of a type that is read as one number, and of a string
pub number_is : (m : ℕ) (ty : PokeType) (type : IntegerType) (order : Order) (levels : Levels) (s : ℕ) →
    number_type ty ≡ Some type → s ≤ m → plan m ty order levels s ≡ read_plan m ty type order levels s
unfolding plan from_inside
number_is m (IntegerOf type') type order levels s e inside =
    let same : type' ≡ type = cc in rw (le-leb s m inside, same) refl
number_is m (OffsetOf type' unit) type order levels s e inside =
    let same : type' ≡ type = cc in rw (le-leb s m inside, same) refl
number_is m StringOf type order levels s e inside = cc
number_is m (ArrayOf element bound) type order levels s e inside = cc
number_is m (StructOf name pinned _) type order levels s e inside = cc
number_is m (IntegralOf name type' fs) type order levels s e inside =
    let same : type' ≡ type = cc in rw (le-leb s m inside, same) refl
number_is m (UnionOf name alternatives) type order levels s e inside = cc

pub text_is : (m : ℕ) (order : Order) (levels : Levels) (s : ℕ) → s ≤ m →
    plan m StringOf order levels s ≡ Tick (framed levels (text_plan m (m / 8 + 1) [] levels s s))
unfolding plan from_inside
text_is m order levels s inside = rw (le-leb s m inside) refl

pub struct_is : (m : ℕ) (name : Naming) (pinned : Bool) (fs : Fields) (order : Order) (levels : Levels) (s : ℕ) →
    plan m (StructOf name pinned fs) order levels s ≡ from_inside m s (Tick (framed levels
    (then_ok (fields_plan m pinned s fs order (opened levels) s s) (struct_closes name (field_names fs) s))))
unfolding plan
struct_is m name pinned fs order levels s = refl

pub array_is : (m : ℕ) (element : PokeType) (bound : Bound) (order : Order) (levels : Levels) (s : ℕ) →
    plan m (ArrayOf element bound) order levels s
    ≡ from_inside m s (Tick (then_ok (after (bound_steps bound levels) (extent_of bound levels s)) (λ extent.
    framed levels (then_ok (elements_plan (element_plan element (plan m element order)) m s extent
    (count_of m (least_width element)) 0 (opened levels) s) (array_closes element s)))))
unfolding plan
array_is m element bound order levels s = refl

pub union_is : (m : ℕ) (name : Naming) (alternatives : Parts) (order : Order) (levels : Levels) (s : ℕ) →
    plan m (UnionOf name alternatives) order levels s ≡ from_inside m s (Tick
    (framed levels (then_ok (alternatives_plan m alternatives 0 order (opened levels) s) (union_closes name levels s))))
unfolding plan
union_is m name alternatives order levels s = refl

-- ---- the ends of structs, arrays and unions

module _ {world : World} {limit : ℕ} (p : Plan (Result Opened FaultAt)) (s end : ℕ) (inside : Levels) {k j k1 j1 : ℕ}
    {state state1 : State} (h : Follows world limit p k j state k1 j1 state1 (Done (Ok (inside, end)))) where
  module _ (name : Naming) (names : List Naming) where
    pub struct_no_room : {state2 : State} →
        LacksRoom world state1 Closes (pushed (outer_of inside) (Some (struct_value name names s end inside))) →
        Follows world limit (then_ok p (struct_closes name names s)) k j state k1 j1 state2 NoRoom
    struct_no_room lacks = ends_no_room p (struct_closes name names s) (inside, end) Closes (outer_of inside)
        (struct_value name names s end inside) refl h lacks

    pub struct_made : {k2 j2 : ℕ} {state2 : State} → MovesTo world Closes state1 state2 → k2 ≡ k1 → j2 ≡ j1 + 1 →
        Follows world limit (then_ok p (struct_closes name names s)) k j state k2 j2 state2
        (Done (Ok (struct_value name names s end inside)))
    struct_made moves ek ej = ends_made p (struct_closes name names s) (inside, end) Closes (outer_of inside)
        (struct_value name names s end inside) refl h {limit1 = limit} moves refl ek ej

  module _ (element : PokeType) where
    pub array_no_room : {state2 : State} →
        LacksRoom world state1 (array_move (row_of element))
        (pushed (outer_of inside) (Some (array_value s end inside))) →
        Follows world limit (then_ok p (array_closes element s)) k j state k1 j1 state2 NoRoom
    array_no_room lacks = ends_no_room p (array_closes element s) (inside, end) (array_move (row_of element))
        (outer_of inside) (array_value s end inside) refl h lacks

    pub array_made : {k2 j2 : ℕ} {state2 : State} → MovesTo world (array_move (row_of element)) state1 state2 →
        k2 ≡ k1 → j2 ≡ j1 + 1 →
        Follows world limit (then_ok p (array_closes element s)) k j state k2 j2 state2
        (Done (Ok (array_value s end inside)))
    array_made moves ek ej = ends_made p (array_closes element s) (inside, end) (array_move (row_of element))
        (outer_of inside) (array_value s end inside) refl h {limit1 = limit} moves refl ek ej

module _ {world : World} {limit : ℕ} (p : Plan (Result Taken FaultAt)) (name : Naming) (levels : Levels) (s : ℕ)
    (t : Taken) {k j k1 j1 : ℕ} {state state1 : State}
    (h : Follows world limit p k j state k1 j1 state1 (Done (Ok t))) where
  pub union_no_room : {state2 : State} → LacksRoom world state1 Closes (pushed levels (Some (union_value name s t))) →
      Follows world limit (then_ok p (union_closes name levels s)) k j state k1 j1 state2 NoRoom
  union_no_room lacks = ends_no_room p (union_closes name levels s) t Closes levels (union_value name s t) refl h lacks

  pub union_made : {k2 j2 : ℕ} {state2 : State} → MovesTo world Closes state1 state2 → k2 ≡ k1 → j2 ≡ j1 + 1 →
      Follows world limit (then_ok p (union_closes name levels s)) k j state k2 j2 state2
      (Done (Ok (union_value name s t)))
  union_made moves ek ej = ends_made p (union_closes name levels s) t Closes levels (union_value name s t) refl h
      {limit1 = limit} moves refl ek ej

-- ---- fields

-- a type at a place, with its constraint
abbrev pub checked : (m : ℕ) → PokeType → Option Term → Order → Levels → (p : ℕ) → Plan (Result Value FaultAt)
checked m ty c order levels p = then_ok (plan m ty order levels p) (constrained c levels p)

module _ {world : World} {limit : ℕ} (types : ℕ → PokeType) (m : ℕ) (pinned : Bool) (s : ℕ) (fs : List Field)
    (order : Order) (levels : Levels) (last_end top : ℕ) {k j : ℕ} {state : State} where
  pub fields_end : fs ≡ [] →
      Follows world limit (fields_plan m pinned s (open_fields types fs) order levels last_end top) k j state k j state
      (Done (Ok (levels, top)))
  unfolding fields_plan
  fields_end is = rw is follow_done

  module _ (f : Field) (rest : List Field) (is : fs ≡ f ∷ rest) {k1 j1 : ℕ} where
    pub fields_no_tick : {state' : State} → k1 ≡ k → k1 ≡ limit → j1 ≡ j →
        Follows world limit (fields_plan m pinned s (open_fields types fs) order levels last_end top) k j state
        k1 j1 state' NoSteps
    unfolding fields_plan
    fields_no_tick ek el ej = rw is (follow_no_tick ek el ej)

    module _ {limit1 : ℕ} (el : limit1 ≡ limit) (ek : k1 ≡ k + 1) (ej : j1 ≡ j) {k2 j2 : ℕ} (ej2 : j2 ≡ j1) where
      pub condition_stops : (stop : Stop) → k1 ≤ limit1 →
          Settles limit1 k1 k2 (Err stop) (condition (optional_term f.condition) levels s)
          (clause_steps (optional_term f.condition) levels) →
          Follows world limit (fields_plan m pinned s (open_fields types fs) order levels last_end top) k j state k2 j2
          state (stop_finish stop)
      unfolding fields_plan
      condition_stops stop le h =
          rw is (follow_tick el ek ej (follow_stop _ _ stop (settles_stop _ _ stop refl le h ej2)))

      module _ (there : Settles limit1 k1 k2 (Ok false) (condition (optional_term f.condition) levels s)
          (clause_steps (optional_term f.condition) levels)) where
        pub absent_no_room : {state' : State} → LacksRoom world state Leaves (pushed levels None) →
            Follows world limit (fields_plan m pinned s (open_fields types fs) order levels last_end top) k j
            state k2 j2 state' NoRoom
        unfolding fields_plan
        absent_no_room lacks = rw is
            (follow_tick el ek ej (follow_then_ok _ _ (settles_ok _ _ false refl there ej2) (follow_no_room lacks)))

        pub absent_goes : {state' : State} → MovesTo world Leaves state state' →
            Follows world limit
            (fields_plan m pinned s (open_fields types fs) order levels last_end top) k j state k2 j2
            state' (Partly (fields_plan m pinned s (open_fields types rest) order (pushed levels None) last_end top))
        unfolding fields_plan
        absent_goes moves = rw is (follow_tick el ek ej (follow_then_ok _ _ (settles_ok _ _ false refl there ej2)
            (follow_made {limit' = limit1} {k1 = k2} {j1 = j2} moves refl refl (omega arith) follow_here)))

      module _ (there : Settles limit1 k1 k2 (Ok true) (condition (optional_term f.condition) levels s)
          (clause_steps (optional_term f.condition) levels))
          {limit2 k3 j3 : ℕ} (el2 : limit2 ≡ limit1) (ej3 : j3 ≡ j2) where
        pub start_stops : (stop : Stop) → k2 ≤ limit1 →
            Settles limit2 k2 k3 (Err stop) (field_start pinned (optional_term f.label) levels s last_end)
            (label_steps pinned (optional_term f.label) levels) →
            Follows world limit
            (fields_plan m pinned s (open_fields types fs) order levels last_end top) k j state k3 j3
            state (stop_finish stop)
        unfolding fields_plan
        start_stops stop le h = rw is (follow_tick el ek ej (follow_then_ok _ _ (settles_ok _ _ true refl there ej2)
            (follow_stop _ _ stop (settles_stop _ _ stop el2 le h ej3))))

        module _ (p : ℕ)
            (start : Settles limit2 k2 k3 (Ok p) (field_start pinned (optional_term f.label) levels s last_end)
            (label_steps pinned (optional_term f.label) levels))
            {limit3 k' j' : ℕ} {state' : State} (el3 : limit3 ≡ limit2) where
          pub field_stops : (stop : Stop) →
              Follows world limit3
              (checked m (types f.node) (optional_term f.constraint) (ordered f.order order) levels p) k3 j3 state k' j'
              state' (stop_finish stop) →
              Follows world limit (fields_plan m pinned s (open_fields types fs) order levels last_end top) k j state k'
              j' state' (stop_finish stop)
          unfolding fields_plan
          field_stops stop h =
              let h = follow_at {limit' = limit3} (el3 ∙ el2) refl refl h in
              rw is (follow_tick el ek ej (follow_then_ok _ _ (settles_ok _ _ true refl there ej2)
              (follow_then_ok _ _ (settles_ok _ _ p el2 start ej3) (follow_stop _ _ stop h))))

          pub field_goes : (v : Value) (end top' : ℕ) → end_of v ≡ end → top' ≡ max top end →
              Follows world limit3
              (checked m (types f.node) (optional_term f.constraint) (ordered f.order order) levels p) k3 j3 state k' j'
              state' (Done (Ok v)) →
              Follows world limit (fields_plan m pinned s (open_fields types fs) order levels last_end top) k j state k'
              j' state'
              (Partly (fields_plan m pinned s (open_fields types rest) order (pushed levels (Some v)) end top'))
          unfolding fields_plan
          field_goes v end top' ends tops h =
              let h = follow_at {limit' = limit3} (el3 ∙ el2) refl refl h in
              rw (is, tops, ← ends) (follow_tick el ek ej (follow_then_ok _ _ (settles_ok _ _ true refl there ej2)
              (follow_then_ok _ _ (settles_ok _ _ p el2 start ej3) (follow_then_ok _ _ h follow_here))))

-- ---- elements

-- so many elements reach past the last bit
pub few_enough : (m w : ℕ) → m < count_of m w * max 1 w
few_enough m w =
    let below = lt-div-mul-add {a = m} {b = max 1 w} (omega arith) in
    let more = add-mul (m / max 1 w) 1 (max 1 w) in
    omega (arith, below, more)

module _ {world : World} {limit : ℕ} (element : Levels → ℕ → Plan (Result Value FaultAt)) (m s : ℕ) (extent : Extent)
    (i : ℕ) (levels : Levels) (place d : ℕ) {k j : ℕ} {state : State} (n : ℕ) (left : m < place + n * d)
    (inside : place ≤ m) where
  pub elements_end : is_due extent m s i place ≡ false → is_met extent s place ≡ true →
      Follows world limit (elements_plan element m s extent n i levels place) k j state k j state
      (Done (Ok (levels, place)))
  unfolding elements_plan
  elements_end over met = elim n as (λ x. m < place + x * d → Follows world limit
      (elements_plan element m s extent x i levels place) k j state k j state (Done (Ok (levels, place)))) [
        | zero ↦ λ none. absurd (omega arith)
        | suc x ↦ λ some. rw (over, met) follow_done
      ] left

  pub elements_beyond : is_due extent m s i place ≡ false → is_met extent s place ≡ false →
      Follows world limit (elements_plan element m s extent n i levels place) k j state k j state
      (Done (Err (Bounds, s)))
  unfolding elements_plan
  elements_beyond over met = elim n as (λ x. m < place + x * d → Follows world limit
      (elements_plan element m s extent x i levels place) k j state k j state (Done (Err (Bounds, s)))) [
        | zero ↦ λ none. absurd (omega arith)
        | suc x ↦ λ some. rw (over, met) follow_done
      ] left

  module _ (due : is_due extent m s i place ≡ true) {k1 j1 : ℕ} where
    pub elements_no_tick : {state' : State} → k1 ≡ k → k1 ≡ limit → j1 ≡ j →
        Follows world limit (elements_plan element m s extent n i levels place) k j state k1 j1 state' NoSteps
    unfolding elements_plan
    elements_no_tick {state'} ek el ej = elim n as (λ x. m < place + x * d →
        Follows world limit (elements_plan element m s extent x i levels place) k j state k1 j1 state' NoSteps) [
          | zero ↦ λ none. absurd (omega arith)
          | suc x ↦ λ some. rw due (follow_no_tick ek el ej)
        ] left

    module _ {limit1 : ℕ} (el : limit1 ≡ limit) (ek : k1 ≡ k + 1) (ej : j1 ≡ j) {k' j' : ℕ} {state' : State} where
      -- an element that is tried
      tried : (finish : Finish (Result Opened FaultAt)) →
          ((x : ℕ) → n ≡ suc x → Follows world limit1 (and_then (element levels place)
          (after_element extent (elements_plan element m s extent x (i + 1)) levels place))
          k1 j1 state k' j' state' finish) →
          Follows world limit (elements_plan element m s extent n i levels place) k j state k' j' state' finish
      unfolding elements_plan
      tried finish h = elim n as (λ x. m < place + x * d → ((y : ℕ) → x ≡ suc y → Follows world limit1 (and_then
          (element levels place) (after_element extent (elements_plan element m s extent y (i + 1)) levels place))
          k1 j1 state k' j' state' finish) →
          Follows world limit (elements_plan element m s extent x i levels place) k j state k' j' state' finish) [
            | zero ↦ λ none h. absurd (omega arith)
            | suc x ↦ λ some h. rw due (follow_tick el ek ej (h x refl))
          ] left h

      pub elements_no_bits : (v : Value) → end_of v ≡ place →
          Follows world limit1 (element levels place) k1 j1 state k' j' state' (Done (Ok v)) →
          Follows world limit (elements_plan element m s extent n i levels place) k j state k' j' state'
          (Done (Err (NoBits, place)))
      unfolding after_element
      elements_no_bits v e h =
          tried (Done (Err (NoBits, place))) (λ x is. follow_then _ _ h (rw (eq-eqb (end_of v) place e) follow_done))

      pub elements_goes : (v : Value) (end i' : ℕ) → i' ≡ i + 1 → end_of v ≡ end → (end ≡ place → ⊥) → place + d ≤ end →
          Follows world limit1 (element levels place) k1 j1 state k' j' state' (Done (Ok v)) →
          (x : ℕ) × (m < end + x * d) × Follows world limit (elements_plan element m s extent n i levels place) k j
          state k' j' state' (Partly (elements_plan element m s extent x i' (pushed levels (Some v)) end))
      unfolding elements_plan after_element
      elements_goes v end i' ei ends some wide h = elim n as (λ y. m < place + y * d → (x : ℕ) × (m < end + x * d)
          × Follows world limit (elements_plan element m s extent y i levels place) k j state k' j' state'
          (Partly (elements_plan element m s extent x i' (pushed levels (Some v)) end))) [
            | zero ↦ λ none. absurd (omega arith)
            | suc x ↦ λ left. (
              x,
              further x left,
              rw (ei, ← ends, due) (follow_tick el ek ej
                  (follow_then _ _ h (rw (ne_eqb (end_of v) place (λ e. some (sym ends ∙ e))) follow_here))),
            )
          ] left
        where
          further : (x : ℕ) → m < place + suc x * d → m < end + x * d
          further x lt = let more = suc-mul x d in omega (arith, lt, more, wide)

      -- an element that stops, and the end of the array before it
      pub elements_over : (stop : Stop) → stop_ends extent stop ≡ true →
          Follows world limit1 (element levels place) k1 j1 state k' j' state' (stop_finish stop) →
          Follows world limit (elements_plan element m s extent n i levels place) k j state k' j' state'
          (Done (Ok (levels, place)))
      unfolding after_element
      elements_over (Fault kind at) ends h =
          tried (Done (Ok (levels, place))) (λ x is. follow_then _ _ h (rw ends follow_done))
      elements_over Limit ends h = absurd (false≢true ends)
      elements_over Device ends h = absurd (false≢true ends)
      elements_over Memory ends h = absurd (false≢true ends)

      pub elements_stop : (stop : Stop) → stop_ends extent stop ≡ false →
          Follows world limit1 (element levels place) k1 j1 state k' j' state' (stop_finish stop) →
          Follows world limit (elements_plan element m s extent n i levels place) k j state k' j'
          state' (stop_finish stop)
      unfolding after_element
      elements_stop (Fault kind at) ends h =
          tried (Done (Err (kind, at))) (λ x is. follow_then _ _ h (rw ends follow_done))
      elements_stop Limit ends h = tried NoSteps (λ x is. follow_and_no_steps _ _ h)
      elements_stop Device ends h = tried Broken (λ x is. follow_and_broken _ _ h)
      elements_stop Memory ends h = tried NoRoom (λ x is. follow_and_no_room _ _ h)

-- ---- alternatives

module _ {world : World} {limit : ℕ} (types : ℕ → PokeType) (m : ℕ) (ps : List Part) (index : ℕ) (order : Order)
    (levels : Levels) (s : ℕ) {k j : ℕ} {state : State} where
  pub alternatives_end : ps ≡ [] →
      Follows world limit (alternatives_plan m (open_parts types ps) index order levels s) k j state k j state
      (Done (Err (Constraint, s)))
  unfolding alternatives_plan
  alternatives_end is = rw is follow_done

  module _ (p : Part) (rest : List Part) (is : ps ≡ p ∷ rest) {k1 j1 : ℕ} where
    pub alternatives_no_tick : {state' : State} → k1 ≡ k → k1 ≡ limit → j1 ≡ j →
        Follows world limit (alternatives_plan m (open_parts types ps) index order levels s) k j state
        k1 j1 state' NoSteps
    unfolding alternatives_plan
    alternatives_no_tick ek el ej = rw is (follow_no_tick ek el ej)

    module _ {limit1 : ℕ} (el : limit1 ≡ limit) (ek : k1 ≡ k + 1) (ej : j1 ≡ j) {k' j' : ℕ} {state' : State} where
      pub alternatives_fit : (v : Value) →
          Follows world limit1 (checked m (types p.node) (optional_term p.constraint) (ordered p.order order) levels s)
          k1 j1 state k' j' state' (Done (Ok v)) →
          Follows world limit (alternatives_plan m (open_parts types ps) index order levels s) k j state k' j' state'
          (Done (Ok (record { index = index; name = name_of p.name; value = v })))
      unfolding alternatives_plan after_attempt
      alternatives_fit v h = rw is (follow_tick el ek ej (follow_then _ _ h follow_done))

      pub alternatives_miss : {cleared : State} → MovesTo world Clears state' cleared → (stop : Stop) →
          stop_misses stop ≡ true →
          Follows world limit1 (checked m (types p.node) (optional_term p.constraint) (ordered p.order order) levels s)
          k1 j1 state k' j' state' (stop_finish stop) →
          Follows world limit (alternatives_plan m (open_parts types ps) index order levels s) k j state k' j' cleared
          (Partly (alternatives_plan m (open_parts types rest) (index + 1) order levels s))
      unfolding alternatives_plan after_attempt
      alternatives_miss clears (Fault kind at) missed h = rw is (follow_tick el ek ej
          (follow_then _ _ h (rw missed (follow_made {limit' = limit1} clears refl refl (omega arith) follow_here))))
      alternatives_miss clears Limit missed h = absurd (false≢true missed)
      alternatives_miss clears Device missed h = absurd (false≢true missed)
      alternatives_miss clears Memory missed h = absurd (false≢true missed)

      pub alternatives_stop : (stop : Stop) → stop_misses stop ≡ false →
          Follows world limit1 (checked m (types p.node) (optional_term p.constraint) (ordered p.order order) levels s)
          k1 j1 state k' j' state' (stop_finish stop) →
          Follows world limit (alternatives_plan m (open_parts types ps) index order levels s) k j state k' j'
          state' (stop_finish stop)
      unfolding alternatives_plan after_attempt
      alternatives_stop (Fault kind at) missed h =
          rw is (follow_tick el ek ej (follow_then _ _ h (rw missed follow_done)))
      alternatives_stop Limit missed h = rw is (follow_tick el ek ej (follow_and_no_steps _ _ h))
      alternatives_stop Device missed h = rw is (follow_tick el ek ej (follow_and_broken _ _ h))
      alternatives_stop Memory missed h = rw is (follow_tick el ek ej (follow_and_no_room _ _ h))
