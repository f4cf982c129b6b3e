-- What is known of a type before it is read holds of each run along its plan.
use Rattle.std.proofs.Common.{◌≡◌, ℕ, zero, suc, ◌+◌, ◌*◌, ◌≤◌, max, Bool, true, false, List, [], ◌∷◌, ◌++◌, length, Option, Some, None, Result, Ok, Err, refl, sym, ap, ◌∙◌, subst, arith}
use Rattle.std.specs.Prelude.{unwrap_or, if◌then◌else◌, ◌&&◌}
use Rattle.std.proofs.lemmas.Bool.{le-leb}
use Rattle.std.proofs.lemmas.List.{length-append, append_assoc, append-nil}
use Rattle.std.proofs.lemmas.Option.{slice_get-get_or}
use Rattle.std.proofs.Math.Seq.{get_or-append_seam}
use Rattle.bit_space.specs.declared.order.Order.{Order}
use Rattle.bit_space.specs.Reading.{MayRead}
use Rattle.pickle_tree.specs.declared.tree.ByteOrder.{ByteOrder}
use Rattle.pickle_tree.specs.declared.tree.ByteOrder.TheVariants as prefix
use Rattle.pickle_types.specs.declared.integer.IntegerType.{IntegerType}
use Rattle.pickle_types.specs.Types.{Term, Number, InUnit, PokeType, IntegerOf, OffsetOf, StringOf, ArrayOf, StructOf, IntegralOf, UnionOf, Fields, NoFields, FieldThen, Parts, NoParts, PartThen}
use Rattle.pickle_meaning.specs.declared.faults.MapFaultKind.TheVariants as fault
use Rattle.pickle_meaning.specs.Arithmetic.{in_unit}
use Rattle.pickle_meaning.specs.Clauses.{FaultAt, condition, constraint, clause_steps, field_start, label_steps}
use Rattle.pickle_meaning.specs.Evaluation.{and_operand, evaluation}
use Rattle.pickle_meaning.specs.Means.{ordered, field_names, struct_value, Opened, Taken}
use Rattle.pickle_meaning.specs.Values.{Naming, Value, end_of, label_of, Levels, pushed, opened, value_at}
use Rattle.mapping_plans.specs.Plan.{Plan, Ended, then_ok, after}
use Rattle.mapping_plans.specs.Mapping.{plan, fields_plan, alternatives_plan, read_plan, number_plan, constrained, struct_closes, union_closes, after_attempt}
use Rattle.first_numbers.specs.declared.number.Numeral.{Numeral}
use Rattle.first_numbers.specs.declared.passed.Passed.{Passed}
use Rattle.first_numbers.specs.Layouts.{is_over_own, FirstNumber, First, first_order, moved, Layout, AsNumber, Fixed, Tests, Loose, number_first, part_layout, none_passed, literal_place, field_place, lead_steps, past, inside, is_listed, is_small, field_then, at_place, none_tried, besides, alternative_then, layout, fields_layout, alternatives_layout}
use Rattle.first_numbers.specs.Runs.{Along, along_ended, along_tick, along_made, along_read, CanRead, number_value, value_in, absent, own_frames, judged, Fails, AllFail, none_fail, one_fails}
use Rattle.first_numbers.proofs.Along.{along_as, along_after, along_then, along_ok, along_err, along_framed, along_inside}
use Rattle.first_numbers.proofs.Alike.{over_own, fails_there}

-- ---- small facts

pub by_truth : {A : Type 0} (b : Bool) → (b ≡ true → A) → (b ≡ false → A) → A
by_truth true f g = f refl
by_truth false f g = g refl

-- the member after the others of a frame
pub at_seam : (top : List (Option Value)) (outer : Levels) (v : Value) →
    value_at (pushed (top ∷ outer) (Some v)) 0 (length top) ≡ Some v
at_seam top outer v =
    let more : length (top ++ Some v ∷ []) ≡ length top + 1 = length-append top (Some v ∷ []) in
    ap (λ o. unwrap_or o None)
    (slice_get-get_or (top ++ Some v ∷ []) (length top) (Some v) (omega (arith, more))
    ∙ ap Some (get_or-append_seam top (Some v) [] (Some v)))

absent_length : (own : ℕ) → length (absent own) ≡ own
absent_length zero = refl
absent_length (suc own) = let h = absent_length own in omega (arith, h)

pub in_own : (own : ℕ) (v : Value) → value_at (own_frames own v) 0 own ≡ Some v
in_own own v = subst (λ k. value_at (own_frames own v) 0 k ≡ Some v) (absent_length own) (at_seam (absent own) [] v)

same_label : (type : IntegerType) (unit : Option ℕ) (n s t : ℕ) →
    label_of (value_in type unit n s) ≡ label_of (value_in type unit n t)
same_label type None n s t = refl
same_label type (Some unit) n s t = refl

number_end : (type : IntegerType) (unit : Option ℕ) (n s : ℕ) → end_of (value_in type unit n s) ≡ s + type.width
number_end type None n s = refl
number_end type (Some unit) n s = refl

max_add : (s a b : ℕ) → max (s + a) (s + b) ≡ s + max a b
max_add s a b = omega arith

order_of : (own set : Option ByteOrder) (order : Order) → ordered (first_order own set) order
    ≡ ordered own (ordered set order)
order_of None set order = refl
order_of (Some prefix.Big) set order = refl
order_of (Some prefix.Little) set order = refl

module _ (known : Option (List ℕ)) where
  -- the numbers of a type that begins so many bits from the start of another
  pub unmoved : (order : Order) (s place : ℕ) (set : Option ByteOrder) (xs : List FirstNumber) (k : ℕ) →
      AllFail known order s (moved place set xs) k → AllFail known (ordered set order) (s + place) xs k
  unmoved order s place set [] k none_fail = none_fail
  unmoved order s place set (x ∷ xs) _ (one_fails n may fails rest) =
      one_fails n
      (subst (λ o. MayRead known o (s + place + x.place) x.numeral.number.width n) (order_of x.order set order)
      (subst (λ p. MayRead known (ordered (first_order x.order set) order) p x.numeral.number.width n) (omega arith)
      may))
      (record { is_zero = fails.is_zero }) (unmoved order s place set xs _ rest)

  -- the first of some numbers, and the others
  pub apart : (order : Order) (s : ℕ) (xs ys : List FirstNumber) (k : ℕ) → AllFail known order s (xs ++ ys) k →
      (a : ℕ) × (b : ℕ) × AllFail known order s xs a × AllFail known order s ys b × (k ≡ a + b)
  apart order s [] ys k h = (0, k, none_fail, h, omega arith)
  apart order s (x ∷ xs) ys _ (one_fails n may fails rest) =
      let more = apart order s xs ys _ rest in
      let e = more.4 in
      (_, more.1, one_fails n may fails more.2, more.3, omega arith)

  -- the steps of one number that fails, and its fault where it is read
  abbrev pub FailsAt : (x : FirstNumber) → Order → (s : ℕ) → (k : ℕ) → Type 0
  FailsAt x order s k = (n : ℕ) × MayRead known (ordered x.order order) (s + x.place) x.numeral.number.width n
      × Fails x n × (k ≡ (judged x n).steps)

  pub only : (order : Order) (s : ℕ) (x : FirstNumber) (k : ℕ) → AllFail known order s (x ∷ []) k →
      FailsAt x order s k
  only order s x _ (one_fails n may fails none_fail) = (n, may, fails, omega arith)

module _ (known : Option (List ℕ)) (m : ℕ) where
  -- ---- what holds of a layout

  abbrev pub Reaches : {A : Type 0} → Plan A → A → (steps : ℕ) → Type 0
  Reaches p a k = (made : ℕ) × Along known p a k made

  -- a plan comes to a value that ends there
  abbrev pub Values : Plan (Result Value FaultAt) → (end steps : ℕ) → Type 0
  Values p end k = (v : Value) × (end_of v ≡ end) × Reaches p (Ok v) k

  abbrev pub Faults : {A : Type 0} → Plan (Result A FaultAt) → (place steps : ℕ) → Type 0
  Faults p place k = Reaches p (Err (fault.Constraint, place)) k

  abbrev pub LayoutHolds : PokeType → Layout → Type 0
  LayoutHolds ty (AsNumber x) = (order : Order) (levels : Levels) (s n : ℕ) → s + x.number.width ≤ m →
      MayRead known order s x.number.width n → Reaches (plan m ty order levels s) (Ok (number_value x n s)) 1
  LayoutHolds ty (Fixed w k) = (order : Order) (levels : Levels) (s : ℕ) → s + w ≤ m →
      Values (plan m ty order levels s) (s + w) k
  LayoutHolds ty (Tests f) = (order : Order) (levels : Levels) (s k : ℕ) → s + f.need ≤ m →
      AllFail known order s f.numbers k → Faults (plan m ty order levels s) (s + f.fault) (f.base + k)
  LayoutHolds ty Loose = Unit {0}

  -- a part with its constraint
  abbrev pub part_plan : PokeType → Option Term → Order → Levels → ℕ → Plan (Result Value FaultAt)
  part_plan ty c order levels s = then_ok (plan m ty order levels s) (constrained c levels s)

  abbrev pub PartHolds : (own : ℕ) → PokeType → Option Term → Layout → Type 0
  PartHolds own ty c (AsNumber x) = Unit {0}
  PartHolds own ty c (Fixed w k) = (order : Order) (levels : Levels) (s : ℕ) → s + w ≤ m →
      Values (part_plan ty c order levels s) (s + w) k
  PartHolds own ty c (Tests f) = (order : Order) (top : List (Option Value)) (outer : Levels) (s k : ℕ) →
      length top ≡ own → s + f.need ≤ m → AllFail known order s f.numbers k →
      Faults (part_plan ty c order (top ∷ outer) s) (s + f.fault) (f.base + k)
  PartHolds own ty c Loose = Unit {0}

  -- ---- parts

  -- a value without a constraint
  unconstrained : (ty : PokeType) (order : Order) (levels : Levels) (s : ℕ) (v : Value) (k : ℕ) →
      Reaches (plan m ty order levels s) (Ok v) k → Reaches (part_plan ty None order levels s) (Ok v) k
  unfolding constraint constrained then_ok
  unconstrained ty order levels s v k h =
      let more = along_ok {B = Value} {F = FaultAt} (constrained None levels s) {b = Ok v} h.1 along_ended in
      (more.0, along_as refl (omega arith) more.1)

  -- a value whose constraint fails
  refused : (ty : PokeType) (order : Order) (levels : Levels) (s : ℕ) (e : Term) (v : Value) (k : ℕ) →
      constraint (Some e) (pushed levels (Some v)) s ≡ Err (fault.Constraint, s) →
      Reaches (plan m ty order levels s) (Ok v) k →
      Faults (part_plan ty (Some e) order levels s) s (k + clause_steps (Some e) (pushed levels (Some v)))
  unfolding constrained
  refused ty order levels s e v k is h =
      let steps = clause_steps (Some e) (pushed levels (Some v)) in
      let tested : Along known (after steps (constraint (Some e) (pushed levels (Some v)) s))
      (Err (fault.Constraint, s)) steps 0 = along_as is refl (along_after steps _) in
      let ends = along_err {B = Value} (λ u. Ended (Ok v)) tested in
      along_ok (constrained (Some e) levels s) h.1 ends.1

  module _ (can : CanRead known) where
    part_holds : (own : ℕ) (ty : PokeType) (l : Layout) (c : Option Term) → LayoutHolds ty l →
        PartHolds own ty c (part_layout own l c)
    part_holds own ty (AsNumber x) None h = λ order levels s le.
        let r = can order s x.number.width in (
          number_value x r.0 s,
          number_end x.number x.unit r.0 s,
          unconstrained ty order levels s (number_value x r.0 s) 1 (h order levels s r.0 le r.1),
        )
    part_holds own ty (AsNumber x) (Some e) h = tested (is_over_own own e) refl
      where
        tested : (b : Bool) → is_over_own own e ≡ b →
            PartHolds own ty (Some e) (if b then Tests (number_first own x e) else Loose)
        tested false is = tt
        tested true is = λ order top outer s k len le fails.
            let width = x.number.width in
            let one = only known order s _ k fails in
            let n = one.0 in
            let may : MayRead known order s width n = subst (λ p. MayRead known order p width n) (omega arith) one.1 in
            let v0 = number_value x n 0 in
            let v = number_value x n s in
            let here : value_at (pushed (top ∷ outer) (Some v)) 0 own ≡ Some v =
            subst (λ i. value_at (pushed (top ∷ outer) (Some v)) 0 i ≡ Some v) len (at_seam top outer v) in
            let alike = over_own (own_frames own v0) (pushed (top ∷ outer) (Some v)) own v0 v (in_own own v0) here
            (same_label x.number x.unit n 0 s) e is in
            let zero = fails_there e (own_frames own v0) (pushed (top ∷ outer) (Some v)) 0 s alike one.2.is_zero in
            let read = h order (top ∷ outer) s n le may in
            let out = refused ty order (top ∷ outer) s e v 1 zero read in
            let ek = one.3 in
            let es = alike.steps in
            (out.0, along_as (ap (λ p. Err (fault.Constraint, p)) (omega arith)) (omega (arith, ek, es)) out.1)
    part_holds own ty (Fixed w k) None h = λ order levels s le.
        let r = h order levels s le in (r.0, r.1, unconstrained ty order levels s r.0 k r.2)
    part_holds own ty (Fixed w k) (Some e) h = tt
    part_holds own ty (Tests f) c h = λ order top outer s k len le fails.
        let r = h order (top ∷ outer) s k le fails in along_err (constrained c (top ∷ outer) s) r.1
    part_holds own ty Loose c h = tt

    -- ---- the fields of a struct

    abbrev pub FieldsHold : (pinned : Bool) → Fields → Passed → Layout → Type 0
    FieldsHold pinned fields b (AsNumber x) = ⊥
    FieldsHold pinned fields b (Fixed w k) = (b.top ≤ w) × (rest : ℕ) × (k ≡ b.steps + rest)
        × ((order : Order) (levels : Levels) (s : ℕ) → s + w ≤ m → (last : Levels)
        × Reaches (fields_plan m pinned s fields order levels (s + b.behind) (s + b.top)) (Ok (last, s + w)) rest)
    FieldsHold pinned fields b (Tests f) = (b.top ≤ f.need) × (rest : ℕ) × (f.base ≡ b.steps + rest)
        × ((order : Order) (top : List (Option Value)) (outer : Levels) (s k : ℕ) → length top ≡ b.count →
        s + f.need ≤ m → AllFail known order s f.numbers k →
        Faults (fields_plan m pinned s fields order (top ∷ outer) (s + b.behind) (s + b.top)) (s + f.fault) (rest + k))
    FieldsHold pinned fields b Loose = Unit {0}

    module _ (pinned : Bool) (name : Naming) (set : Option ByteOrder) (ty : PokeType) (c label : Option Term)
        (rest : Fields) (order : Order) (levels : Levels) (s behind top p : ℕ) where
      field_value : {r : Result Opened FaultAt} {k k' : ℕ} (v : Value) →
          field_start pinned label levels s behind ≡ Ok p →
          Reaches (part_plan ty c (ordered set order) levels p) (Ok v) k →
          Reaches (fields_plan m pinned s rest order (pushed levels (Some v)) (end_of v) (max top (end_of v))) r k' →
          Reaches (fields_plan m pinned s (FieldThen name set ty c label None rest) order levels behind top) r
          (1 + label_steps pinned label levels + k + k')
      unfolding fields_plan condition then_ok
      field_value v is h g =
          let n = label_steps pinned label levels in
          let start : Along known (after n (field_start pinned label levels s behind)) (Ok p) n 0 =
          along_as is refl (along_after n _) in
          let part = along_ok
          (λ v. fields_plan m pinned s rest order (pushed levels (Some v)) (end_of v) (max top (end_of v))) h.1 g.1 in
          let all = along_ok (λ p. then_ok (part_plan ty c (ordered set order) levels p)
          (λ v. fields_plan m pinned s rest order (pushed levels (Some v)) (end_of v) (max top (end_of v))))
          start part.1 in
          (all.0, along_as refl (omega arith) (along_tick all.1))

      field_fault : {e : FaultAt} {k : ℕ} → field_start pinned label levels s behind ≡ Ok p →
          Reaches (part_plan ty c (ordered set order) levels p) (Err e) k →
          Reaches (fields_plan m pinned s (FieldThen name set ty c label None rest) order levels behind top) (Err e)
          (1 + label_steps pinned label levels + k)
      unfolding fields_plan condition then_ok
      field_fault is h =
          let n = label_steps pinned label levels in
          let start : Along known (after n (field_start pinned label levels s behind)) (Ok p) n 0 =
          along_as is refl (along_after n _) in
          let part = along_err
          (λ v. fields_plan m pinned s rest order (pushed levels (Some v)) (end_of v) (max top (end_of v))) h.1 in
          let all = along_ok (λ p. then_ok (part_plan ty c (ordered set order) levels p)
          (λ v. fields_plan m pinned s rest order (pushed levels (Some v)) (end_of v) (max top (end_of v))))
          start part.1 in
          (all.0, along_as refl (omega arith) (along_tick all.1))

    -- where a field begins, and the steps up to that
    abbrev pub Starts : (pinned : Bool) → (label : Option Term) → (behind place : ℕ) → Type 0
    Starts pinned label behind place = (levels : Levels) (s : ℕ) →
        (field_start pinned label levels s (s + behind) ≡ Ok (s + place))
        × (1 + label_steps pinned label levels ≡ lead_steps pinned label)

    module _ (pinned : Bool) (name : Naming) (set : Option ByteOrder) (ty : PokeType) (c label : Option Term)
        (rest : Fields) where
      -- the fields after one that has a value
      step_back : (b : Passed) (place w k : ℕ) → Starts pinned label b.behind place →
          PartHolds b.count ty c (Fixed w k) → (l : Layout) →
          FieldsHold pinned rest (past b place (lead_steps pinned label) w k) l →
          FieldsHold pinned (FieldThen name set ty c label None rest) b l
      step_back b place w k starts part (AsNumber x) h = h
      step_back b place w k starts part (Fixed w' k') h =
          let le = h.0 in
          let ek = h.2 in (
            omega arith,
            lead_steps pinned label + k + h.1,
            omega (arith, ek),
            λ order levels s inside.
                let start = starts levels s in
                let v = part (ordered set order) levels (s + place) (omega (arith, le)) in
                let e : end_of v.0 ≡ s + (place + w) = v.1 ∙ omega arith in
                let more = h.3 order (pushed levels (Some v.0)) s inside in
                let tops : max (s + b.top) (end_of v.0) ≡ s + max b.top (place + w) =
                ap (max (s + b.top)) e ∙ max_add s b.top (place + w) in
                let after : Reaches (fields_plan m pinned s rest order (pushed levels (Some v.0)) (end_of v.0)
                (max (s + b.top) (end_of v.0))) (Ok (more.0, s + w')) h.1 =
                subst (λ t. Reaches (fields_plan m pinned s rest order (pushed levels (Some v.0)) (end_of v.0) t)
                (Ok (more.0, s + w')) h.1) (sym tops)
                (subst (λ q. Reaches (fields_plan m pinned s rest order (pushed levels (Some v.0)) q
                (s + max b.top (place + w))) (Ok (more.0, s + w')) h.1) (sym e) more.1) in
                let all =
                field_value pinned name set ty c label rest order levels s (s + b.behind) (s + b.top) (s + place) v.0
                start.0 v.2 after in
                let lead = start.1 in
                (more.0, (all.0, along_as refl (omega (arith, lead)) all.1)),
          )
      step_back b place w k starts part (Tests f) h =
          let le = h.0 in
          let ek = h.2 in (
            omega arith,
            lead_steps pinned label + k + h.1,
            omega (arith, ek),
            λ order top outer s steps len inside fails.
                let start = starts (top ∷ outer) s in
                let v = part (ordered set order) (top ∷ outer) (s + place) (omega (arith, le)) in
                let e : end_of v.0 ≡ s + (place + w) = v.1 ∙ omega arith in
                let longer : length (top ++ Some v.0 ∷ []) ≡ b.count + 1 =
                length-append top (Some v.0 ∷ []) ∙ omega (arith, len) in
                let more = h.3 order (top ++ Some v.0 ∷ []) outer s steps longer inside fails in
                let tops : max (s + b.top) (end_of v.0) ≡ s + max b.top (place + w) =
                ap (max (s + b.top)) e ∙ max_add s b.top (place + w) in
                let after : Faults (fields_plan m pinned s rest order (pushed (top ∷ outer) (Some v.0)) (end_of v.0)
                (max (s + b.top) (end_of v.0))) (s + f.fault) (h.1 + steps) =
                subst (λ t. Faults (fields_plan m pinned s rest order (pushed (top ∷ outer) (Some v.0)) (end_of v.0) t)
                (s + f.fault) (h.1 + steps)) (sym tops)
                (subst (λ q. Faults (fields_plan m pinned s rest order (pushed (top ∷ outer) (Some v.0)) q
                (s + max b.top (place + w))) (s + f.fault) (h.1 + steps)) (sym e) more) in
                let all =
                field_value pinned name set ty c label rest order (top ∷ outer) s (s + b.behind) (s + b.top) (s + place)
                v.0 start.0 v.2 after in
                let lead = start.1 in
                (all.0, along_as refl (omega (arith, lead)) all.1),
          )
      step_back b place w k starts part Loose h = tt

      -- a field with first numbers
      field_fails : (b : Passed) (place : ℕ) (f : First) → Starts pinned label b.behind place →
          PartHolds b.count ty c (Tests f) →
          FieldsHold pinned (FieldThen name set ty c label None rest) b
          (Tests (inside b place (lead_steps pinned label) set f))
      field_fails b place f starts part = (
        omega arith,
        lead_steps pinned label + f.base,
        omega arith,
        λ order top outer s k len within fails.
            let start = starts (top ∷ outer) s in
            let there = unmoved known order s place set f.numbers k fails in
            let out = part (ordered set order) top outer (s + place) k len (omega arith) there in
            let all =
            field_fault pinned name set ty c label rest order (top ∷ outer) s (s + b.behind) (s + b.top) (s + place)
            start.0 out in
            let lead = start.1 in
            (all.0, along_as (ap (λ p. Err (fault.Constraint, p)) (omega arith)) (omega (arith, lead)) all.1),
      )

      -- a struct from a field on
      field_holds : (b : Passed) (place : ℕ) (l : Layout) (next : Passed → Layout) →
          Starts pinned label b.behind place → PartHolds b.count ty c l →
          ((b' : Passed) → FieldsHold pinned rest b' (next b')) →
          FieldsHold pinned (FieldThen name set ty c label None rest) b
          (field_then l place (lead_steps pinned label) set b next)
      field_holds b place (AsNumber x) next starts part h = tt
      field_holds b place (Fixed w k) next starts part h =
          let b' = past b place (lead_steps pinned label) w k in
          goes (is_small b'.top && is_small b'.steps) (step_back b place w k starts part (next b') (h b'))
        where
          goes : (t : Bool) →
              FieldsHold pinned (FieldThen name set ty c label None rest) b
              (next (past b place (lead_steps pinned label) w k)) →
              FieldsHold pinned (FieldThen name set ty c label None rest) b
              (if t then next (past b place (lead_steps pinned label) w k) else Loose)
          goes true g = g
          goes false g = tt
      field_holds b place (Tests f) next starts part h =
          goes (is_listed (inside b place (lead_steps pinned label) set f)) (field_fails b place f starts part)
        where
          goes : (t : Bool) →
              FieldsHold pinned (FieldThen name set ty c label None rest) b
              (Tests (inside b place (lead_steps pinned label) set f)) →
              FieldsHold pinned (FieldThen name set ty c label None rest) b
              (if t then Tests (inside b place (lead_steps pinned label) set f) else Loose)
          goes true g = g
          goes false g = tt
      field_holds b place Loose next starts part h = tt

    abbrev place_or : ℕ → Option ℕ → ℕ
    place_or d None = d
    place_or d (Some p) = p

    abbrev IsPlace : Option ℕ → Type 0
    IsPlace None = ⊥
    IsPlace (Some p) = Unit {0}

    no_place : {A : Type 0} {p : ℕ} → None ≡ Some p → A
    no_place e = absurd (subst IsPlace (sym e) tt)

    -- a literal label leads there
    literal_starts : (unit value : ℕ) (type : IntegerType) (behind place : ℕ) →
        literal_place (InUnit unit (Number type value)) ≡ Some place →
        Starts false (Some (InUnit unit (Number type value))) behind place
    unfolding field_start evaluation and_operand in_unit
    literal_starts unit value type behind place is =
        goes (is_small (value * unit)) is
      where
        goes : (t : Bool) → (if t then Some (value * unit) else None) ≡ Some place →
            Starts false (Some (InUnit unit (Number type value))) behind place
        goes true e = let same : value * unit ≡ place = ap (place_or 0) e in
            λ levels s. (ap (λ p. Ok (s + p)) same, refl)
        goes false e = no_place e

    label_starts : (label : Term) (behind place : ℕ) → literal_place label ≡ Some place →
        Starts false (Some label) behind place
    label_starts (InUnit unit (Number type value)) behind place is = literal_starts unit value type behind place is
    label_starts label behind place is = no_place is

    place_starts : (pinned : Bool) (label : Option Term) (behind place : ℕ) →
        field_place pinned label behind ≡ Some place → Starts pinned label behind place
    unfolding field_start
    place_starts true label behind place is =
        let same : 0 ≡ place = ap (place_or 0) is in
        λ levels s. (ap Ok (omega (arith, same)), refl)
    place_starts false None behind place is =
        let same : behind ≡ place = ap (place_or 0) is in
        λ levels s. (ap (λ p. Ok (s + p)) same, refl)
    place_starts false (Some label) behind place is = label_starts label behind place is

    -- ---- the alternatives of a union

    abbrev pub AlternativesHold : Parts → First → Layout → Type 0
    AlternativesHold parts all (AsNumber x) = ⊥
    AlternativesHold parts all (Fixed w k) = ⊥
    AlternativesHold parts all (Tests f) =
        (all.need ≤ f.need) × (f.fault ≡ 0) × (rest : ℕ) × (f.base ≡ all.base + rest) × (more : List FirstNumber)
        × (f.numbers ≡ all.numbers ++ more)
        × ((index : ℕ) (order : Order) (outer : Levels) (s k : ℕ) → s + f.need ≤ m → AllFail known order s more k →
        Faults (alternatives_plan m parts index order ([] ∷ outer) s) s (rest + k))
    AlternativesHold parts all Loose = Unit {0}

    module _ (name : Naming) (set : Option ByteOrder) (ty : PokeType) (c : Option Term) (rest : Parts) where
      alternative_fails : (index : ℕ) (order : Order) (levels : Levels) (s place : ℕ) {k k' : ℕ} →
          Faults (part_plan ty c (ordered set order) levels s) place k →
          Faults (alternatives_plan m rest (index + 1) order levels s) s k' →
          Faults (alternatives_plan m (PartThen name set ty c rest) index order levels s) s (1 + k + k')
      unfolding alternatives_plan after_attempt
      alternative_fails index order levels s place {k} {k'} h g =
          let next = alternatives_plan m rest (index + 1) order levels s in
          let again : Along known (after_attempt levels next index name (Err (fault.Constraint, place)))
          (Err (fault.Constraint, s)) k' (0 + g.0) = along_made g.1 in
          let all = along_then (after_attempt levels next index name) h.1 again in
          (all.0, along_as refl (omega arith) (along_tick all.1))

      alternative_back : (all f : First) → PartHolds 0 ty c (Tests f) → (l : Layout) →
          AlternativesHold rest (besides all set f) l → AlternativesHold (PartThen name set ty c rest) all l
      alternative_back all f part (AsNumber x) h = h
      alternative_back all f part (Fixed w k) h = h
      alternative_back all f part (Tests t) h =
          let le = h.0 in
          let eb = h.3 in (
            omega (arith, le),
            h.1,
            1 + f.base + h.2,
            omega (arith, eb),
            moved 0 set f.numbers ++ h.4,
            h.5 ∙ append_assoc all.numbers (moved 0 set f.numbers) h.4,
            λ index order outer s k within fails.
                let parts = apart known order s (moved 0 set f.numbers) h.4 k fails in
                let here = unmoved known order s 0 set f.numbers parts.0 parts.2 in
                let there : AllFail known (ordered set order) s f.numbers parts.0 =
                subst (λ p. AllFail known (ordered set order) p f.numbers parts.0) (omega arith) here in
                let out = part (ordered set order) [] outer s parts.0 refl (omega (arith, le)) there in
                let more = h.6 (index + 1) order outer s parts.1 within parts.3 in
                let both = alternative_fails index order ([] ∷ outer) s (s + f.fault) out more in
                let ek = parts.4 in
                (both.0, along_as refl (omega (arith, ek)) both.1),
          )
      alternative_back all f part Loose h = tt

      alternative_holds : (all : First) (l : Layout) (next : First → Layout) → PartHolds 0 ty c l →
          ((all' : First) → all'.fault ≡ 0 → AlternativesHold rest all' (next all')) →
          AlternativesHold (PartThen name set ty c rest) all (alternative_then l set all next)
      alternative_holds all (AsNumber x) next part h = tt
      alternative_holds all (Fixed w k) next part h = tt
      alternative_holds all (Tests f) next part h =
          goes (is_listed (besides all set f))
          (alternative_back all f part (next (besides all set f)) (h (besides all set f) refl))
        where
          goes : (t : Bool) → AlternativesHold (PartThen name set ty c rest) all (next (besides all set f)) →
              AlternativesHold (PartThen name set ty c rest) all (if t then next (besides all set f) else Loose)
          goes true g = g
          goes false g = tt
      alternative_holds all Loose next part h = tt

    -- ---- types

    -- a type that is read as one number
    number_holds : (ty : PokeType) (x : Numeral) →
        ((order : Order) (levels : Levels) (s n : ℕ) → s + x.number.width ≤ m → MayRead known order s x.number.width n →
        Reaches (plan m ty order levels s) (Ok (number_value x n s)) 1) → LayoutHolds ty (AsNumber x)
    number_holds ty x h = h

    integer_runs : (type : IntegerType) (order : Order) (levels : Levels) (s n : ℕ) → s + type.width ≤ m →
        MayRead known order s type.width n →
        Reaches (plan m (IntegerOf type) order levels s)
        (Ok (number_value (record { number = type; unit = None }) n s)) 1
    unfolding plan read_plan number_plan
    integer_runs type order levels s n le may = (
      1,
      along_inside m s (omega arith)
          (rw (le-leb (s + type.width) m le) (along_tick (along_read n may (along_made along_ended)))),
    )

    offset_runs : (type : IntegerType) (unit : ℕ) (order : Order) (levels : Levels) (s n : ℕ) → s + type.width ≤ m →
        MayRead known order s type.width n →
        Reaches (plan m (OffsetOf type unit) order levels s)
        (Ok (number_value (record { number = type; unit = Some unit }) n s)) 1
    unfolding plan read_plan number_plan
    offset_runs type unit order levels s n le may = (
      1,
      along_inside m s (omega arith)
          (rw (le-leb (s + type.width) m le) (along_tick (along_read n may (along_made along_ended)))),
    )

    -- a struct, from its fields
    struct_holds : (name : Naming) (pinned : Bool) (fields : Fields) (l : Layout) →
        FieldsHold pinned fields none_passed l → LayoutHolds (StructOf name pinned fields) l
    unfolding plan
    struct_holds name pinned fields (AsNumber x) h = absurd h
    struct_holds name pinned fields (Fixed w k) h = λ order levels s le.
        let ek = h.2 in
        let more = h.3 order (opened levels) s le in
        let zero : s + 0 ≡ s = omega arith in
        let here : Reaches (fields_plan m pinned s fields order (opened levels) s s) (Ok (more.0, s + w)) h.1 =
        subst (λ p. Reaches (fields_plan m pinned s fields order (opened levels) p p) (Ok (more.0, s + w)) h.1) zero
        more.1 in
        let v = struct_value name (field_names fields) s (s + w) more.0 in
        let closes = along_ok (struct_closes name (field_names fields) s) here.1 (along_made along_ended) in
        let framed = along_framed levels closes.1 in
        (v, refl, (framed.0, along_inside m s (omega arith) (along_as refl (omega (arith, ek)) (along_tick framed.1))))
    struct_holds name pinned fields (Tests f) h = λ order levels s k le fails.
        let eb = h.2 in
        let more = h.3 order [] levels s k refl le fails in
        let zero : s + 0 ≡ s = omega arith in
        let here : Faults (fields_plan m pinned s fields order (opened levels) s s) (s + f.fault) (h.1 + k) =
        subst (λ p. Faults (fields_plan m pinned s fields order (opened levels) p p) (s + f.fault) (h.1 + k)) zero
        more in
        let closes = along_err (struct_closes name (field_names fields) s) here.1 in
        let framed = along_framed levels closes.1 in
        (framed.0, along_inside m s (omega arith) (along_as refl (omega (arith, eb)) (along_tick framed.1)))
    struct_holds name pinned fields Loose h = tt

    -- a union, from its alternatives
    union_holds : (name : Naming) (alternatives : Parts) (l : Layout) → AlternativesHold alternatives none_tried l →
        LayoutHolds (UnionOf name alternatives) l
    unfolding plan
    union_holds name alternatives (AsNumber x) h = absurd h
    union_holds name alternatives (Fixed w k) h = absurd h
    union_holds name alternatives (Tests f) h = λ order levels s k le fails.
        let eb = h.3 in
        let ef = h.1 in
        let fails' : AllFail known order s h.4 k = subst (λ xs. AllFail known order s xs k) h.5 fails in
        let more = h.6 0 order levels s k le fails' in
        let closes = along_err (union_closes name levels s) more.1 in
        let framed = along_framed levels closes.1 in
        let ticked = along_as (ap (λ p. Err (fault.Constraint, p)) (omega (arith, ef))) (omega (arith, eb))
        (along_tick framed.1) in
        (framed.0, along_inside m s (omega arith) ticked)
    union_holds name alternatives Loose h = tt

    -- no alternative is left
    none_left_holds : (all : First) → all.fault ≡ 0 → AlternativesHold NoParts all (Tests all)
    unfolding alternatives_plan
    none_left_holds all e = (
      omega arith,
      e,
      0,
      omega arith,
      [],
      sym (append-nil all.numbers),
      λ index order outer s k le fails. (0, ended_with order s k fails),
    )
      where
        ended_with : (order : Order) (s k : ℕ) → AllFail known order s [] k →
            Along known {A = Result Taken FaultAt} (Ended (Err (fault.Constraint, s)))
            (Err (fault.Constraint, s)) (0 + k) 0
        ended_with order s _ none_fail = along_ended

    -- a struct from a field on, whose place may not be known
    at_holds : (pinned : Bool) (name : Naming) (set : Option ByteOrder) (ty : PokeType) (c label : Option Term)
        (rest : Fields) (b : Passed) → LayoutHolds ty (layout ty) →
        ((b' : Passed) → FieldsHold pinned rest b' (fields_layout pinned rest b')) → (o : Option ℕ) →
        field_place pinned label b.behind ≡ o →
        FieldsHold pinned (FieldThen name set ty c label None rest) b
        (at_place o (λ place. field_then (part_layout b.count (layout ty) c) place (lead_steps pinned label) set b
        (fields_layout pinned rest)))
    at_holds pinned name set ty c label rest b here next None e = tt
    at_holds pinned name set ty c label rest b here next (Some place) e =
        field_holds pinned name set ty c label rest b place (part_layout b.count (layout ty) c)
        (fields_layout pinned rest) (place_starts pinned label b.behind place e)
        (part_holds b.count ty (layout ty) c here) next

    mutual
      unfolding layout fields_plan alternatives_plan

      pub layout_holds : (ty : PokeType) → LayoutHolds ty (layout ty)
      layout_holds (IntegerOf type) = integer_runs type
      layout_holds (OffsetOf type unit) = offset_runs type unit
      layout_holds StringOf = tt
      layout_holds (ArrayOf element bound) = tt
      layout_holds (StructOf name pinned fields) =
          struct_holds name pinned fields (fields_layout pinned fields none_passed)
          (fields_hold pinned fields none_passed)
      layout_holds (IntegralOf name type fields) = tt
      layout_holds (UnionOf name alternatives) =
          union_holds name alternatives (alternatives_layout alternatives none_tried)
          (alternatives_hold alternatives none_tried refl)

      fields_hold : (pinned : Bool) (fields : Fields) (b : Passed) →
          FieldsHold pinned fields b (fields_layout pinned fields b)
      fields_hold pinned NoFields b =
          (omega arith, 0, omega arith, λ order levels s le. (levels, (0, along_ended)))
      fields_hold pinned (FieldThen name set ty c label None rest) b =
          at_holds pinned name set ty c label rest b (layout_holds ty) (fields_hold pinned rest)
          (field_place pinned label b.behind) refl
      fields_hold pinned (FieldThen name set ty c label (Some when) rest) b = tt

      alternatives_hold : (parts : Parts) (all : First) → all.fault ≡ 0 →
          AlternativesHold parts all (alternatives_layout parts all)
      alternatives_hold NoParts all z = none_left_holds all z
      alternatives_hold (PartThen name set ty c rest) all z =
          alternative_holds name set ty c rest all (part_layout 0 (layout ty) c) (alternatives_layout rest)
          (part_holds 0 ty (layout ty) c (layout_holds ty)) (alternatives_hold rest)
