-- The result of a number's plan is what the number means.
use Rattle.std.proofs.Common.{◌≡◌, ℕ, ◌+◌, ◌-◌, zero, suc, List, [], Option, Some, Result, Ok, Err, OnErr, refl, ap, ◌∙◌}
use Rattle.pickle_tree.specs.declared.tree.ByteOrder.{ByteOrder}
use Rattle.pickle_types.specs.declared.integer.IntegerType.{IntegerType}
use Rattle.pickle_types.specs.Types.{Term, PokeType, IntegerOf, OffsetOf, StringOf, ArrayOf, StructOf, IntegralOf, UnionOf, Parts, NoParts, PartThen}
use Rattle.pickle_meaning.specs.Values.{Naming, Value, Levels, pushed, opened}
use Rattle.pickle_meaning.specs.Clauses.{FaultAt, constraint, clause_steps}
use Rattle.pickle_meaning.specs.Means.{NumberMeans, integer, offset, integral, integral_fault, no_number, DigitsMean, no_digits, next_digits, digits_refused, digits_fault, number_type, width_in, first_digits, part_names, struct_value}
use Rattle.mapping_plans.specs.Plan.{Plan, Ended, Tick, Made, Read, and_then, then_ok, leave_frame, framed, on_value, after, result_of}
use Rattle.mapping_plans.specs.Mapping.{number_plan, digits_plan, constrained, closes}
use Rattle.std.specs.Prelude.{IfErr, IfOk}
use Rattle.bit_space.specs.declared.meter.Meter.{Meter}
use Rattle.pickle_types.specs.declared.node.Node.{Node}
use Rattle.pickle_map.specs.declared.mapper.stop.Stop.{Stop}
use Rattle.pickle_map.specs.declared.mapper.stop.Stop.TheVariants.{Fault, Limit, Device, Memory}
use Rattle.pickle_map.specs.Calls.{Places}
use Rattle.pickle_map.proofs.Followed.{walk_leaves}
use Rattle.value_store.specs.Moves.{Closes}
use Rattle.value_store.specs.Slots.{Held, levels}
use Rattle.fault_location.specs.Digits.{KeepsNumber}
use Rattle.fault_location.specs.Sites.{StopsNumber}
use Rattle.fault_parts.specs.Somehow.{Somehow}

module _ (bits : List ℕ) where
  result_then : {A B : Type 0} (p : Plan A) (f : A → Plan B) →
      result_of bits (and_then p f) ≡ result_of bits (f (result_of bits p))
  result_then (Ended a) f = refl
  result_then (Tick p) f = result_then p f
  result_then (Made count move levels p) f = result_then p f
  result_then (Read place width order rest) f = result_then (rest _) f

  result_after : {A : Type 0} (n : ℕ) (a : A) → result_of bits (after n a) ≡ a
  result_after zero a = refl
  result_after (suc n) a = result_after n a

  -- what the result of a plan gives
  pub goes_on : {A B F : Type 0} (p : Plan (Result A F)) (f : A → Plan (Result B F)) (a : A) → result_of bits p ≡ Ok a →
      result_of bits (then_ok p f) ≡ result_of bits (f a)
  unfolding then_ok
  goes_on p f a e = result_then p (on_value f) ∙ ap (λ r. result_of bits (on_value f r)) e

  pub goes_wrong : {A B F : Type 0} (p : Plan (Result A F)) (f : A → Plan (Result B F)) (x : F) →
      result_of bits p ≡ Err x → result_of bits (then_ok p f) ≡ Err x
  unfolding then_ok
  goes_wrong p f x e = result_then p (on_value f) ∙ ap (λ r. result_of bits (on_value f r)) e

  -- what is built in a frame, by its own result
  in_frame : {A F : Type 0} (outer : Levels) (p : Plan (Result A F)) (r : Result A F) → result_of bits p ≡ r →
      result_of bits (framed outer p) ≡ r
  unfolding framed
  in_frame {A} {F} outer p r e =
      result_then p (leave_frame outer) ∙ ap (λ x. result_of bits (leave_frame outer x)) e ∙ left r
    where
      left : (x : Result A F) → result_of bits (leave_frame outer x) ≡ x
      left (Ok a) = refl
      left (Err f) = refl

  constrained_goes : (c : Option Term) (levels : Levels) (s : ℕ) (v : Value) →
      constraint c (pushed levels (Some v)) s ≡ Ok tt → result_of bits (constrained c levels s v) ≡ Ok v
  unfolding constrained
  constrained_goes c levels s v e =
      goes_on (after (clause_steps c (pushed levels (Some v))) (constraint c (pushed levels (Some v)) s))
      (λ u. Ended (Ok v)) tt (result_after (clause_steps c (pushed levels (Some v))) _ ∙ e)

  constrained_wrong : (c : Option Term) (levels : Levels) (s : ℕ) (v : Value) (f : FaultAt) →
      constraint c (pushed levels (Some v)) s ≡ Err f → result_of bits (constrained c levels s v) ≡ Err f
  unfolding constrained
  constrained_wrong c levels s v f e =
      goes_wrong (after (clause_steps c (pushed levels (Some v))) (constraint c (pushed levels (Some v)) s))
      (λ u. Ended (Ok v)) f (result_after (clause_steps c (pushed levels (Some v))) _ ∙ e)

  abbrev Number : PokeType → ℕ → Levels → ℕ → Result Value FaultAt → Type 0
  Number ty n levels s r = Somehow (NumberMeans ty n levels s r)

  abbrev Digits : Parts → (n left : ℕ) → Levels → ℕ → Result Levels FaultAt → Type 0
  Digits parts n left levels s r = Somehow (DigitsMean parts n left levels s r)

  -- an integral struct, by the result of its fields
  of_fields : (name : Naming) (type : IntegerType) (fields : Parts) (n : ℕ) (levels : Levels) (s : ℕ)
      (r : Result Levels FaultAt) → result_of bits (digits_plan fields n type.width (opened levels) s) ≡ r →
      Digits fields n type.width (opened levels) s r →
      Number (IntegralOf name type fields) n levels s
      (result_of bits (number_plan (IntegralOf name type fields) n levels s))
  unfolding number_plan
  of_fields name type fields n levels s (Ok inside) e m =
      let whole = then_ok (digits_plan fields n type.width (opened levels) s)
      (closes Closes (struct_value name (part_names fields) s (s + type.width))) in
      let is = in_frame levels whole _ (goes_on (digits_plan fields n type.width (opened levels) s)
      (closes Closes (struct_value name (part_names fields) s (s + type.width))) inside e) in
      rw is (record { steps = _; made = _; holds = integral m.holds })
  of_fields name type fields n levels s (Err f) e m =
      let whole = then_ok (digits_plan fields n type.width (opened levels) s)
      (closes Closes (struct_value name (part_names fields) s (s + type.width))) in
      let is = in_frame levels whole _ (goes_wrong (digits_plan fields n type.width (opened levels) s)
      (closes Closes (struct_value name (part_names fields) s (s + type.width))) f e) in
      rw is (record { steps = _; made = _; holds = integral_fault m.holds })

  -- the fields of an integral struct, by the result of the first one
  module _ (name : Naming) (order : Option ByteOrder) (ty : PokeType) (c : Option Term) (rest : Parts) (n left : ℕ)
      (levels : Levels) (s : ℕ) where
    abbrev cut : ℕ
    cut = first_digits n left (width_in (number_type ty))

    abbrev behind : Value → Plan (Result Levels FaultAt)
    behind v = digits_plan rest n (left - width_in (number_type ty)) (pushed levels (Some v)) s

    abbrev Whole : Type 0
    Whole = Digits (PartThen name order ty c rest) n left levels s
        (result_of bits (digits_plan (PartThen name order ty c rest) n left levels s))

    of_constraint : (v : Value) → result_of bits (number_plan ty cut levels s) ≡ Ok v → Number ty cut levels s (Ok v) →
        Digits rest n (left - width_in (number_type ty)) (pushed levels (Some v)) s (result_of bits (behind v)) →
        (o : Result (Unit {0}) FaultAt) → constraint c (pushed levels (Some v)) s ≡ o → Whole
    unfolding digits_plan
    of_constraint v e m more (Ok u) holds =
        let checked = goes_on (Tick (number_plan ty cut levels s)) (constrained c levels s) v e
        ∙ constrained_goes c levels s v holds in
        let is = goes_on (then_ok (Tick (number_plan ty cut levels s)) (constrained c levels s)) behind v checked in
        rw is (record { steps = _; made = _; holds = next_digits m.holds holds more.holds })
    of_constraint v e m more (Err f) holds =
        let checked = goes_on (Tick (number_plan ty cut levels s)) (constrained c levels s) v e
        ∙ constrained_wrong c levels s v f holds in
        let is = goes_wrong (then_ok (Tick (number_plan ty cut levels s)) (constrained c levels s)) behind f checked in
        rw is (record { steps = _; made = _; holds = digits_refused m.holds holds })

    of_first : (r : Result Value FaultAt) → result_of bits (number_plan ty cut levels s) ≡ r →
        Number ty cut levels s r →
        ((v : Value) →
        Digits rest n (left - width_in (number_type ty)) (pushed levels (Some v)) s (result_of bits (behind v))) → Whole
    unfolding digits_plan
    of_first (Ok v) e m more = of_constraint v e m (more v) _ refl
    of_first (Err f) e m more =
        let wrong = goes_wrong (Tick (number_plan ty cut levels s)) (constrained c levels s) f e in
        let is = goes_wrong (then_ok (Tick (number_plan ty cut levels s)) (constrained c levels s)) behind f wrong in
        rw is (record { steps = _; made = _; holds = digits_fault m.holds })

  mutual
    unfolding number_plan digits_plan

    pub number_planned : (ty : PokeType) (n : ℕ) (levels : Levels) (s : ℕ) →
        Number ty n levels s (result_of bits (number_plan ty n levels s))
    number_planned (IntegerOf type) n levels s = record { steps = _; made = _; holds = integer }
    number_planned (OffsetOf type unit) n levels s = record { steps = _; made = _; holds = offset }
    number_planned StringOf n levels s = record { steps = _; made = _; holds = no_number refl }
    number_planned (ArrayOf element bound) n levels s = record { steps = _; made = _; holds = no_number refl }
    number_planned (StructOf name pinned _) n levels s = record { steps = _; made = _; holds = no_number refl }
    number_planned (IntegralOf name type fields) n levels s =
        of_fields name type fields n levels s _ refl (digits_planned fields n type.width (opened levels) s)
    number_planned (UnionOf name alternatives) n levels s = record { steps = _; made = _; holds = no_number refl }

    pub digits_planned : (parts : Parts) (n left : ℕ) (levels : Levels) (s : ℕ) →
        Digits parts n left levels s (result_of bits (digits_plan parts n left levels s))
    digits_planned NoParts n left levels s = record { steps = _; made = _; holds = no_digits }
    digits_planned (PartThen name order ty c rest) n left levels s =
        of_first name order ty c rest n left levels s _ refl
        (number_planned ty (first_digits n left (width_in (number_type ty))) levels s)
        (λ v. digits_planned rest n (left - width_in (number_type ty)) (pushed levels (Some v)) s)

-- a number that was placed is stored as it means
pub number_kept : (nodes : List Node) (meter meter' : Meter) (store store' : Held) (ty : PokeType) (n s : ℕ)
    (result : Result (Unit {0}) Stop) → Places nodes meter meter' store store' ty n s result →
    IfOk result (λ u. KeepsNumber ty n s (levels nodes store) (levels nodes store'))
number_kept nodes meter meter' store store' ty n s (Ok u) h =
    let one = h (Some []) in
    let leaves = walk_leaves [] refl one.follows.walk in
    let is = rw one.follows.ends.0 at leaves.result in
    let m = number_planned [] ty n (levels nodes store) s in
    record { value = one.value; means = rw is at m; keeps = one.kept }
number_kept nodes meter meter' store store' ty n s (Err stop) h = tt

-- a number that was stopped means the fault
pub number_stopped : (nodes : List Node) (meter meter' : Meter) (store store' : Held) (ty : PokeType) (n s : ℕ)
    (result : Result (Unit {0}) Stop) → Places nodes meter meter' store store' ty n s result →
    OnErr result (levels nodes store' ≡ levels nodes store) →
    IfErr result (StopsNumber ty n s (levels nodes store) (levels nodes store'))
number_stopped nodes meter meter' store store' ty n s (Ok u) h same = tt
number_stopped nodes meter meter' store store' ty n s (Err (Fault kind place)) h same =
    let stopped = h (Some []) in
    let leaves = walk_leaves [] refl stopped.walk in
    let is = rw stopped.ends.0 at leaves.result in
    let m = number_planned [] ty n (levels nodes store) s in
    (rw is at m, same)
number_stopped nodes meter meter' store store' ty n s (Err Limit) h same = tt
number_stopped nodes meter meter' store store' ty n s (Err Device) h same = tt
number_stopped nodes meter meter' store store' ty n s (Err Memory) h same = tt
