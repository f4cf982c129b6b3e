-- A fault arises in only one part.
use Rattle.std.proofs.Common.{◌≡◌, ℕ, zero, suc, ◌+◌, ◌-◌, ◌<◌, ◌≤◌, length, Bool, true, false, List, [], ◌∷◌, Option, Some, None, Result, Ok, Err, refl, sym, ap, ◌∙◌, arith}
use Rattle.std.specs.Prelude.{nat_eq, if◌then◌else◌}
use Rattle.std.proofs.lemmas.Bool.{le-leb, lt-leb, eq-eqb, ne_eqb}
use Rattle.std.proofs.lemmas.Option.{none-some}
use Rattle.bit_space.specs.declared.order.Order.{Order}
use Rattle.pickle_types.specs.declared.integer.IntegerType.{IntegerType}
use Rattle.pickle_types.specs.Types.{Term, PokeType, IntegerOf, OffsetOf, StringOf, ArrayOf, StructOf, IntegralOf, UnionOf, Fields, FieldThen, Parts, PartThen}
use Rattle.pickle_meaning.specs.declared.extent.Extent.{Extent}
use Rattle.pickle_meaning.specs.declared.faults.MapFaultKind.TheVariants as fault
use Rattle.pickle_meaning.specs.Values.{Value, end_of, Levels, pushed, opened}
use Rattle.pickle_meaning.specs.Numbers.{number_at}
use Rattle.pickle_meaning.specs.Clauses.{FaultAt, constraint, clause_steps, misses}
use Rattle.pickle_meaning.specs.Laws.{HasOneOutcome, ValuesAreWide}
use Rattle.mapping_plans.specs.PlanLaws.{PlanIsMeant}
use Rattle.mapping_plans.specs.Mapping.{plan, number_plan, digits_plan, constrained}
use Rattle.pickle_meaning.specs.Means.{NumberMeans, integer, offset, integral, integral_fault, no_number, DigitsMean, no_digits, next_digits, digits_refused, digits_fault, Means, PartMeans, part, part_refused, part_fault, Elements, no_more, next_element, number_type, width_in}
use Rattle.mapping_plans.specs.Plan.{Plan, Ended, Tick, Made, Read, and_then, after, on_value, then_ok, leave_frame, framed, result_of}
use Rattle.fault_parts.specs.Arises.{Path, DigitsBefore, no_digits_before, digits_before, NumberArises, is_no_number, in_digits, DigitsArise, digits_constraint, digits_inside, FieldsBefore, no_field_before, absent_before, value_before, MissesBefore, no_miss_before, miss_before, Arises, starts_past_end, number_past_end, string_past_end, bound_of_array, in_array, ElementsArise, past_size, of_no_bits, in_element, in_struct, in_number, in_union, PartArises, constraint_of_part, in_part, FieldsArise, condition_of_field, label_of_field, in_field, AlternativesArise, none_fits, in_alternative}
use Rattle.fault_parts.specs.Somehow.{Somehow}
use Rattle.fault_parts.specs.Laws.{ArisesOnce}
use Rattle.fault_parts.proofs.Meant.{number_meant, means_fault}
use Rattle.fault_parts.specs.Paths.{by_outcome, next, checked_path, number_path, digits_path, elements_path, path_of, fields_path, alternatives_path}

-- ---- numbers

result_then : {A B : Type 0} (bits : List ℕ) (p : Plan A) (f : A → Plan B) →
    result_of bits (and_then p f) ≡ result_of bits (f (result_of bits p))
result_then bits (Ended a) f = refl
result_then bits (Tick p) f = result_then bits p f
result_then bits (Made count move levels p) f = result_then bits p f
result_then bits (Read place width order rest) f = result_then bits (rest _) f

result_after : {A : Type 0} (bits : List ℕ) (n : ℕ) (a : A) → result_of bits (after n a) ≡ a
result_after bits zero a = refl
result_after bits (suc n) a = result_after bits n a

-- one plan, and then another, by the first one's outcome
result_ok : {A B : Type 0} (bits : List ℕ) (p : Plan (Result A FaultAt)) (f : A → Plan (Result B FaultAt))
    (r : Result A FaultAt) → result_of bits p ≡ r → result_of bits (then_ok p f) ≡ result_of bits (on_value f r)
unfolding then_ok
result_ok bits p f r e = result_then bits p (on_value f) ∙ ap (λ x. result_of bits (on_value f x)) e

-- what is built in a frame, by its own outcome
result_framed : {A : Type 0} (bits : List ℕ) (outer : Levels) (p : Plan (Result A FaultAt)) (r : Result A FaultAt) →
    result_of bits p ≡ r → result_of bits (framed outer p) ≡ r
unfolding framed
result_framed {A} bits outer p r e =
    result_then bits p (leave_frame outer) ∙ ap (λ x. result_of bits (leave_frame outer x)) e ∙ left r
  where
    left : (x : Result A FaultAt) → result_of bits (leave_frame outer x) ≡ x
    left (Ok v) = refl
    left (Err f) = refl

constrained_result : (bits : List ℕ) (c : Option Term) (levels : Levels) (s : ℕ) (v : Value)
    (r : Result (Unit {0}) FaultAt) → constraint c (pushed levels (Some v)) s ≡ r →
    result_of bits (constrained c levels s v) ≡ result_of bits (on_value (λ (u : Unit {0}). Ended (Ok v)) r)
unfolding constrained
constrained_result bits c levels s v r e =
    result_ok bits (after (clause_steps c (pushed levels (Some v))) (constraint c (pushed levels (Some v)) s))
    (λ u. Ended (Ok v)) r (result_after bits (clause_steps c (pushed levels (Some v))) _ ∙ e)

no_number_result : (ty : PokeType) (n : ℕ) (levels : Levels) (s : ℕ) → number_type ty ≡ None →
    result_of [] (number_plan ty n levels s) ≡ Err (fault.Absent, s)
unfolding number_plan
no_number_result (IntegerOf type) n levels s e = absurd (none-some type (sym e))
no_number_result (OffsetOf type unit) n levels s e = absurd (none-some type (sym e))
no_number_result StringOf n levels s e = refl
no_number_result (ArrayOf element bound) n levels s e = refl
no_number_result (StructOf name pinned _) n levels s e = refl
no_number_result (IntegralOf name type fields) n levels s e = absurd (none-some type (sym e))
no_number_result (UnionOf name alternatives) n levels s e = refl

mutual
  unfolding number_plan

  pub number_result : {ty : PokeType} {n : ℕ} {levels : Levels} {s : ℕ} {r : Result Value FaultAt} {k j : ℕ} →
      NumberMeans ty n levels s r k j → result_of [] (number_plan ty n levels s) ≡ r
  number_result integer = refl
  number_result offset = refl
  number_result (integral {levels} fs) = result_framed [] levels _ _ (result_ok [] _ _ _ (digits_result fs))
  number_result (integral_fault {levels} fs) = result_framed [] levels _ _ (result_ok [] _ _ _ (digits_result fs))
  number_result (no_number {ty} {n} {levels} {s} e) = no_number_result ty n levels s e

  digits_result : {parts : Parts} {n left : ℕ} {levels : Levels} {s : ℕ} {r : Result Levels FaultAt} {k j : ℕ} →
      DigitsMean parts n left levels s r k j → result_of [] (digits_plan parts n left levels s) ≡ r
  digits_result no_digits = refl
  digits_result (next_digits {c} {levels} {s} {v} m e fs) =
      result_ok [] _ _ _ (result_ok [] _ _ _ (number_result m) ∙ constrained_result [] c levels s v _ e)
      ∙ digits_result fs
  digits_result (digits_refused {c} {levels} {s} {v} m e) =
      result_ok [] _ _ _ (result_ok [] _ _ _ (number_result m) ∙ constrained_result [] c levels s v _ e)
  digits_result (digits_fault m) = result_ok [] _ _ _ (result_ok [] _ _ _ (number_result m))

-- ---- paths among parts

-- the path among parts after i others
abbrev pub nexts : ℕ → Path → Path
nexts i [] = []
nexts i (k ∷ path) = (i + k) ∷ path

nexts_none : (path : Path) → path ≡ nexts 0 path
nexts_none [] = refl
nexts_none (k ∷ path) = let e : k ≡ 0 + k = omega arith in ap (λ n. n ∷ path) e

nexts_one : (i : ℕ) (path : Path) → nexts i (next path) ≡ nexts (i + 1) path
nexts_one i [] = refl
nexts_one i (k ∷ path) = let e : i + suc k ≡ (i + 1) + k = omega arith in ap (λ n. n ∷ path) e

pub nexts_here : (i : ℕ) (path : Path) → nexts i (0 ∷ path) ≡ i ∷ path
nexts_here i path = let e : i + 0 ≡ i = omega arith in ap (λ n. n ∷ path) e

pub digits_along : {n s : ℕ} {fields : Parts} {width : ℕ} {levels : Levels} {i : ℕ} {rest : Parts} {left : ℕ}
    {inside : Levels} → DigitsBefore n s fields width levels i rest left inside →
    digits_path fields n width levels s ≡ nexts i (digits_path rest n left inside s)
digits_along no_digits_before = nexts_none _
digits_along {n} {s} (digits_before {name} {order} {ty} {c} {rest} {i} {left} {inside} {v} before m e) =
    let step : digits_path (PartThen name order ty c rest) n left inside s
    ≡ next (digits_path rest n (left - width_in (number_type ty)) (pushed inside (Some v)) s) =
    rw (number_result m, e) refl in
    digits_along before ∙ ap (nexts i) step ∙ nexts_one i _

no_number_path : (ty : PokeType) (n : ℕ) (levels : Levels) (s : ℕ) → number_type ty ≡ None →
    number_path ty n levels s ≡ []
no_number_path (IntegerOf type) n levels s e = refl
no_number_path (OffsetOf type unit) n levels s e = refl
no_number_path StringOf n levels s e = refl
no_number_path (ArrayOf element bound) n levels s e = refl
no_number_path (StructOf name pinned _) n levels s e = refl
no_number_path (IntegralOf name type fields) n levels s e = absurd (none-some type (sym e))
no_number_path (UnionOf name alternatives) n levels s e = refl

mutual
  number_once : {ty : PokeType} {n : ℕ} {levels : Levels} {s : ℕ} {f : FaultAt} {path : Path} →
      NumberArises ty n levels s f path → number_path ty n levels s ≡ path
  number_once (is_no_number {ty} {n} {levels} {s} e) = no_number_path ty n levels s e
  number_once (in_digits h) = digits_once h

  digits_once : {fields : Parts} {n width : ℕ} {levels : Levels} {s : ℕ} {f : FaultAt} {path : Path} →
      DigitsArise fields n width levels s f path → digits_path fields n width levels s ≡ path
  digits_once (digits_constraint {name} {order} {ty} {c} {rest} {n} {s} {i} {left} {inside} before m e) =
      let here : digits_path (PartThen name order ty c rest) n left inside s ≡ 0 ∷ [] = rw (number_result m, e) refl in
      digits_along before ∙ ap (nexts i) here ∙ nexts_here i []
  digits_once (digits_inside {name} {order} {ty} {c} {rest} {n} {s} {i} {left} {inside} {path} before h) =
      let m = number_meant h in
      let here : digits_path (PartThen name order ty c rest) n left inside s ≡ 0 ∷ path =
      rw (number_result m.holds) (ap (λ p. 0 ∷ p) (number_once h)) in
      digits_along before ∙ ap (nexts i) here ∙ nexts_here i path

-- ---- types

-- a type that starts past the last bit
pub past_path : (bits : List ℕ) (ty : PokeType) (order : Order) (levels : Levels) (s : ℕ) → length bits < s →
    path_of bits ty order levels s ≡ []
past_path bits (IntegerOf type) order levels s lt = refl
past_path bits (OffsetOf type unit) order levels s lt = refl
past_path bits StringOf order levels s lt = refl
past_path bits (ArrayOf element bound) order levels s lt = rw (lt-leb s (length bits) lt) refl
past_path bits (StructOf name pinned _) order levels s lt = rw (lt-leb s (length bits) lt) refl
past_path bits (IntegralOf name type fields) order levels s lt =
    let further : length bits < s + type.width = omega arith in rw (lt-leb (s + type.width) (length bits) further) refl
past_path bits (UnionOf name alternatives) order levels s lt = rw (lt-leb s (length bits) lt) refl

abbrev width_or : Option IntegerType → ℕ
width_or None = 0
width_or (Some type) = type.width

-- a number that ends past the last bit
pub short_path : (bits : List ℕ) (ty : PokeType) (type : IntegerType) (order : Order) (levels : Levels) (s : ℕ) →
    number_type ty ≡ Some type → length bits < s + type.width → path_of bits ty order levels s ≡ []
short_path bits (IntegerOf t) type order levels s e lt = refl
short_path bits (OffsetOf t unit) type order levels s e lt = refl
short_path bits StringOf type order levels s e lt = refl
short_path bits (ArrayOf element bound) type order levels s e lt = absurd (none-some type e)
short_path bits (StructOf name pinned _) type order levels s e lt = absurd (none-some type e)
short_path bits (IntegralOf name t fields) type order levels s e lt =
    let w : t.width ≡ type.width = ap width_or e in
    let further : length bits < s + t.width = omega arith in
    rw (lt-leb (s + t.width) (length bits) further) refl
short_path bits (UnionOf name alternatives) type order levels s e lt = absurd (none-some type e)

-- a number whose bits are all in the file
pub whole_path : (bits : List ℕ) (ty : PokeType) (type : IntegerType) (order : Order) (levels : Levels) (s : ℕ) →
    number_type ty ≡ Some type → s + type.width ≤ length bits →
    path_of bits ty order levels s ≡ number_path ty (number_at bits order s type.width) levels s
whole_path bits (IntegerOf t) type order levels s e le = refl
whole_path bits (OffsetOf t unit) type order levels s e le = refl
whole_path bits StringOf type order levels s e le = refl
whole_path bits (ArrayOf element bound) type order levels s e le = absurd (none-some type e)
whole_path bits (StructOf name pinned _) type order levels s e le = absurd (none-some type e)
whole_path bits (IntegralOf name t fields) type order levels s e le =
    let w : t.width ≡ type.width = ap width_or e in
    let inside : s + t.width ≤ length bits = omega arith in
    rw (le-leb (s + t.width) (length bits) inside)
    (ap (λ n. digits_path fields (number_at bits order s n) t.width (opened levels) s) w)
whole_path bits (UnionOf name alternatives) type order levels s e le = absurd (none-some type e)

-- the result of a field or an alternative that is a value
abbrev PartIs : List ℕ → PokeType → Option Term → Order → Levels → (s : ℕ) → Result Value FaultAt → Type 0
PartIs bits ty c order levels s (Ok v) =
    Somehow (Means bits ty order levels s (Ok v)) × (constraint c (pushed levels (Some v)) s ≡ Ok tt)
PartIs bits ty c order levels s (Err f) = Unit {0}

part_is : {bits : List ℕ} {ty : PokeType} {c : Option Term} {order : Order} {levels : Levels} {s : ℕ}
    {r : Result Value FaultAt} {k j : ℕ} → PartMeans bits ty c order levels s r k j → PartIs bits ty c order levels s r
part_is (part m e) = (record { steps = _; made = _; holds = m }, e)
part_is (part_refused m e) = tt
part_is (part_fault m) = tt

module _ (one : HasOneOutcome) (planned : PlanIsMeant) (wide : ValuesAreWide) (bits : List ℕ) where
  pub result_is : {ty : PokeType} {order : Order} {levels : Levels} {s : ℕ} {r : Result Value FaultAt} {k j : ℕ} →
      Means bits ty order levels s r k j → result_of bits (plan (length bits) ty order levels s) ≡ r
  result_is {ty} {order} {levels} {s} m =
      let o = one bits ty order levels s in (o.only _ _ _ (planned bits ty order levels s)).0 ∙ sym (o.only _ _ _ m).0

  pub fields_along : {pinned : Bool} {s : ℕ} {order : Order} {fields : Fields} {levels : Levels} {i : ℕ} {rest : Fields}
      {inside : Levels} {behind : ℕ} → FieldsBefore bits pinned s order fields levels i rest inside behind →
      fields_path bits pinned s fields order levels s ≡ nexts i (fields_path bits pinned s rest order inside behind)
  fields_along no_field_before = nexts_none _
  fields_along {pinned} {s} {order} (absent_before {name} {set} {ty} {c} {label} {when} {rest} {i} {behind}
      {inside} before e) =
      let step : fields_path bits pinned s (FieldThen name set ty c label when rest) order inside behind
      ≡ next (fields_path bits pinned s rest order (pushed inside None) behind) = rw e refl in
      fields_along before ∙ ap (nexts i) step ∙ nexts_one i _
  fields_along {pinned} {s} {order} (value_before {name} {set} {ty} {c} {label} {when} {rest} {i} {behind} {inside}
      {v} before e st m) =
      let p = part_is m in
      let step : fields_path bits pinned s (FieldThen name set ty c label when rest) order inside behind
      ≡ next (fields_path bits pinned s rest order (pushed inside (Some v)) (end_of v)) =
      rw (e, st, result_is p.0.holds, p.1) refl in
      fields_along before ∙ ap (nexts i) step ∙ nexts_one i _

  pub alternatives_along : {order : Order} {alternatives : Parts} {levels : Levels} {s i : ℕ} {rest : Parts} →
      MissesBefore bits order alternatives levels s i rest →
      alternatives_path bits alternatives order levels s ≡ nexts i (alternatives_path bits rest order levels s)
  alternatives_along no_miss_before = nexts_none _
  alternatives_along {order} {levels} {s} (miss_before {name} {set} {ty} {c} {rest} {i} before
      (part_refused m refused) e) =
      let step : alternatives_path bits (PartThen name set ty c rest) order levels s
      ≡ next (alternatives_path bits rest order levels s) =
      rw (result_is m, refused, e) refl in
      alternatives_along before ∙ ap (nexts i) step ∙ nexts_one i _
  alternatives_along {order} {levels} {s} (miss_before {name} {set} {ty} {c} {rest} {i} before (part_fault m) e) =
      let step : alternatives_path bits (PartThen name set ty c rest) order levels s
      ≡ next (alternatives_path bits rest order levels s) =
      rw (result_is m, e) refl in
      alternatives_along before ∙ ap (nexts i) step ∙ nexts_one i _

  abbrev pub along : PokeType → Order → (s : ℕ) → Extent → (tries i : ℕ) → Levels → (place : ℕ) → Path
  along ty order s extent tries i levels place =
      elements_path (λ inside p. result_of bits (plan (length bits) ty order inside p)) (path_of bits ty order)
      (length bits) s extent tries i levels place

  -- elements that are values continue, with a try left
  pub elements_along : {ty : PokeType} {order : Order} {s : ℕ} {extent : Extent} {i : ℕ} {levels : Levels} {p n : ℕ}
      {inside : Levels} {pn k j : ℕ} → Elements bits ty order s extent i levels p n inside pn k j → (tries : ℕ) →
      length bits < p + tries → p ≤ length bits →
      (left : ℕ) × (along ty order s extent tries i levels p ≡ along ty order s extent (suc left) n inside pn)
  elements_along no_more zero lt le = absurd (omega arith)
  elements_along no_more (suc d) lt le = (d, refl)
  elements_along (next_element due m further es) zero lt le = absurd (omega arith)
  elements_along {order} {s} {extent} {i} (next_element {ty} {levels} {p} {v} due m further es) (suc d) lt le =
      let w : end_of v ≤ length bits = (wide _ _ _ _ _ _ _ _ m).1 in
      let rest = elements_along es d (omega arith) w in
      let apart : nat_eq (end_of v) p ≡ false = ne_eqb (end_of v) p (λ e. absurd (omega (arith, e, further))) in
      let step : along ty order s extent (suc d) i levels p
      ≡ along ty order s extent d (i + 1) (pushed levels (Some v)) (end_of v) =
      rw (due, result_is m, apart) refl in
      (rest.0, step ∙ rest.1)

  mutual
    pub type_once : {ty : PokeType} {order : Order} {levels : Levels} {s : ℕ} {f : FaultAt} {path : Path} →
        Arises bits ty order levels s f path → path_of bits ty order levels s ≡ path
    type_once (starts_past_end {ty} {order} {levels} {s} lt) = past_path bits ty order levels s lt
    type_once (number_past_end {ty} {type} {order} {levels} {s} le e lt) = short_path bits ty type order levels s e lt
    type_once (string_past_end le run lt) = refl
    type_once (bound_of_array {s} le b) = rw (le-leb s (length bits) le, b) refl
    type_once (in_array {s} le b h) = rw (le-leb s (length bits) le, b) (elements_once le h)
    type_once (in_struct {s} le h) = rw (le-leb s (length bits) le) (fields_once h)
    type_once (in_number {ty} {type} {order} {levels} {s} le e inside h) =
        whole_path bits ty type order levels s e inside ∙ number_once h
    type_once (in_union {s} le h) = rw (le-leb s (length bits) le) (alternatives_once h)

    elements_once : {ty : PokeType} {order : Order} {s : ℕ} {extent : Extent} {levels : Levels} {f : FaultAt}
        {path : Path} → s ≤ length bits → ElementsArise bits ty order s extent levels f path →
        along ty order s extent (suc (length bits)) 0 levels s ≡ path
    elements_once {ty} {order} {s} {extent} le (past_size {inside} {n} {pn} es over unmet) =
        let w = elements_along es (suc (length bits)) (omega arith) le in
        let here : along ty order s extent (suc w.0) n inside pn ≡ [] = rw over refl in
        w.1 ∙ here
    elements_once {ty} {order} {s} {extent} le (of_no_bits {inside} {n} {pn} {v} es due m e) =
        let w = elements_along es (suc (length bits)) (omega arith) le in
        let same : nat_eq (end_of v) pn ≡ true = eq-eqb (end_of v) pn e in
        let here : along ty order s extent (suc w.0) n inside pn ≡ n ∷ [] = rw (due, result_is m, same) refl in
        w.1 ∙ here
    elements_once {ty} {order} {s} {extent} le (in_element {inside} {n} {pn} {path} es due ends h) =
        let w = elements_along es (suc (length bits)) (omega arith) le in
        let m = means_fault h in
        let here : along ty order s extent (suc w.0) n inside pn ≡ n ∷ path =
        rw (due, result_is m.holds, ends) (ap (λ p. n ∷ p) (type_once h)) in
        w.1 ∙ here

    fields_once : {pinned : Bool} {s : ℕ} {order : Order} {fields : Fields} {levels : Levels} {f : FaultAt}
        {path : Path} →
        FieldsArise bits pinned s order fields levels f path → fields_path bits pinned s fields order levels s ≡ path
    fields_once (condition_of_field {pinned} {name} {set} {ty} {c} {label} {when} {rest} {order} {s} {i} {behind}
        {inside} before e) =
        let here : fields_path bits pinned s (FieldThen name set ty c label when rest) order inside behind ≡ 0 ∷ [] =
        rw e refl in
        fields_along before ∙ ap (nexts i) here ∙ nexts_here i []
    fields_once (label_of_field {pinned} {name} {set} {ty} {c} {label} {when} {rest} {order} {s} {i} {behind}
        {inside} before e st) =
        let here : fields_path bits pinned s (FieldThen name set ty c label when rest) order inside behind ≡ 0 ∷ [] =
        rw (e, st) refl in
        fields_along before ∙ ap (nexts i) here ∙ nexts_here i []
    fields_once (in_field {pinned} {name} {set} {ty} {c} {label} {when} {rest} {order} {s} {i} {behind} {inside}
        {path} before e st h) =
        let here : fields_path bits pinned s (FieldThen name set ty c label when rest) order inside behind ≡ 0 ∷ path =
        rw (e, st) (part_once _ h) in
        fields_along before ∙ ap (nexts i) here ∙ nexts_here i path

    -- a part with its constraint, whatever follows where it is a value
    part_once : {ty : PokeType} {c : Option Term} {order : Order} {levels : Levels} {s : ℕ} {f : FaultAt} {path : Path}
        (rest : Value → Path) → PartArises bits ty c order levels s f path →
        by_outcome (result_of bits (plan (length bits) ty order levels s))
        (λ v. checked_path c levels s v (λ f. 0 ∷ []) (rest v)) (λ f. 0 ∷ path_of bits ty order levels s) ≡ 0 ∷ path
    part_once rest (constraint_of_part m e) = rw (result_is m, e) refl
    part_once rest (in_part h) = let m = means_fault h in rw (result_is m.holds) (ap (λ p. 0 ∷ p) (type_once h))

    -- the same for an alternative, whatever follows where it doesn't match
    alternative_once : {ty : PokeType} {c : Option Term} {order : Order} {levels : Levels} {s : ℕ} {f : FaultAt}
        {path : Path} (other : Path) → misses f.0 ≡ false → PartArises bits ty c order levels s f path →
        by_outcome (result_of bits (plan (length bits) ty order levels s))
        (λ v. checked_path c levels s v (λ f. if misses f.0 then other else 0 ∷ []) [])
        (λ f. if misses f.0 then other else 0 ∷ path_of bits ty order levels s) ≡ 0 ∷ path
    alternative_once other other_fault (constraint_of_part m e) = rw (result_is m, e, other_fault) refl
    alternative_once other other_fault (in_part h) =
        let m = means_fault h in rw (result_is m.holds, other_fault) (ap (λ p. 0 ∷ p) (type_once h))

    alternatives_once : {order : Order} {alternatives : Parts} {levels : Levels} {s : ℕ} {f : FaultAt} {path : Path} →
        AlternativesArise bits order alternatives levels s f path →
        alternatives_path bits alternatives order levels s ≡ path
    alternatives_once (none_fits before) = alternatives_along before
    alternatives_once (in_alternative {i} {path} before other_fault h) =
        alternatives_along before ∙ ap (nexts i) (alternative_once _ other_fault h) ∙ nexts_here i path

-- two places where a fault of a type arises are the same
pub arises_once : HasOneOutcome → PlanIsMeant → ValuesAreWide → ArisesOnce
arises_once one planned wide bits ty order levels s f f' path path' h h' =
    let o = one bits ty order levels s in
    let m = means_fault h in
    let m' = means_fault h' in
    let same : Err f ≡ Err f' = (o.only _ _ _ m.holds).0 ∙ sym (o.only _ _ _ m'.holds).0 in
    (ap (fault_or f) same, sym (type_once one planned wide bits h) ∙ type_once one planned wide bits h')
  where
    fault_or : FaultAt → Result Value FaultAt → FaultAt
    fault_or f (Ok v) = f
    fault_or f (Err g) = g
