-- No mapping takes more steps than its type's bound, whatever it reads.
use Rattle.std.proofs.Common.{ℕ, zero, suc, ◌+◌, ◌-◌, ◌*◌, ◌/◌, max, ◌≤◌, Bool, true, false, List, [], ◌∷◌, ◌++◌, Option, Some, None, Result, Ok, Err, arith}
use Rattle.std.specs.Prelude.{if◌then◌else◌, nat_le, nat_eq, ◌&&◌}
use Rattle.bit_space.specs.declared.order.Order.{Order}
use Rattle.pickle_tree.specs.declared.tree.Infix.{Infix}
use Rattle.pickle_types.specs.declared.integer.IntegerType.{IntegerType}
use Rattle.pickle_types.specs.Types.{Term, Number, Text, Name, Bracket, Before, Between, Choice, Index, Select, AttributeOf, ToInteger, ToOffset, InUnit, weight, optional_weight, bound_weight, Bound, Unbounded, ByCount, BySize, PokeType, IntegerOf, OffsetOf, StringOf, ArrayOf, StructOf, IntegralOf, UnionOf, Fields, NoFields, FieldThen, Parts, NoParts, PartThen}
use Rattle.pickle_types.specs.Bounds.{least_width, count_of, cost, fields_cost, parts_cost}
use Rattle.pickle_meaning.specs.declared.extent.Extent.{Extent}
use Rattle.pickle_meaning.specs.declared.faults.MapFaultKind.{MapFaultKind}
use Rattle.pickle_meaning.specs.Values.{Naming, Label, Value, end_of, Levels, pushed, opened, value_at}
use Rattle.pickle_meaning.specs.Arithmetic.{Computed, prefixed, combined, to_integer, to_offset, in_unit}
use Rattle.pickle_meaning.specs.Evaluation.{Operand, operand_label, Evaluation, gives, present, leads_to, on_outcome, and_operand, truth_of, settled, unless_settled, literal_length, is_text, between, chosen, as_common, selected, element, attribute_of, evaluation}
use Rattle.pickle_meaning.specs.Clauses.{FaultAt, clause_steps, label_steps, bound_steps, is_due, is_met, ends_before, misses}
use Rattle.pickle_meaning.specs.Means.{Opened, Taken, number_type, width_in, first_digits, ordered}
use Rattle.mapping_plans.specs.Plan.{Plan, Tick, and_then, after, on_value, then_ok, leave_frame, framed, AtMost, ended, ticked, noted, given}
use Rattle.mapping_plans.specs.Mapping.{from_inside, constrained, number_plan, digits_plan, read_plan, after_byte, text_plan, after_element, element_plan, elements_plan, after_attempt, plan, fields_plan, alternatives_plan}
use Rattle.mapping_plans.specs.Rows.{row_of}
use Rattle.mapping_plans.proofs.InRow.{element_at_most}

-- ---- evaluations

gives_steps : (c : Computed) → (gives c).steps ≤ 0
gives_steps (Ok x) = omega arith
gives_steps (Err f) = omega arith

leads_steps : (r : Result Value MapFaultKind) → (leads_to r).steps ≤ 0
leads_steps (Ok v) = omega arith
leads_steps (Err f) = omega arith

outcome_steps : (r : Result Operand MapFaultKind) (k d : ℕ) (f : Operand → Evaluation) →
    ((x : Operand) → (f x).steps ≤ d) → (on_outcome r k f).steps ≤ k + d
outcome_steps (Ok x) k d f h = let g = h x in omega arith
outcome_steps (Err e) k d f h = omega arith

operand_steps : (a : Evaluation) (n d : ℕ) (f : Operand → Evaluation) → a.steps ≤ n →
    ((x : Operand) → (f x).steps ≤ d) → (and_operand a f).steps ≤ n + d
unfolding and_operand
operand_steps a n d f le h = let g = outcome_steps a.outcome a.steps d f h in omega arith

unless_steps : (o : Option Bool) (d : ℕ) (rest : Evaluation) → rest.steps ≤ d → (unless_settled o rest).steps ≤ d
unless_steps None d rest le = le
unless_steps (Some b) d rest le = omega arith

literal_steps : (b : Bool) (n : ℕ) → (if b then n else 0) ≤ n
literal_steps true n = omega arith
literal_steps false n = omega arith

chosen_steps : (r : Result Bool MapFaultKind) (n d : ℕ) (x y : Evaluation) → x.steps ≤ n → y.steps ≤ d →
    (chosen r x y).steps ≤ n + d
chosen_steps (Ok true) n d x y h g = omega arith
chosen_steps (Ok false) n d x y h g = omega arith
chosen_steps (Err f) n d x y h g = omega arith

between_steps : (op : Infix) (literal : ℕ) (x y : Label) → (between op literal x y).steps ≤ literal
between_steps op literal x y =
    let h = literal_steps (is_text x && is_text y) literal in
    let g = gives_steps (combined op x y) in
    omega arith

-- with the bytes of a text literal, which a comparison counts too
evaluation_steps : (e : Term) (levels : Levels) → (evaluation e levels).steps + literal_length e ≤ weight e
unfolding evaluation
evaluation_steps (Number type value) levels = omega arith
evaluation_steps (Text bytes) levels = omega arith
evaluation_steps (Name level place) levels = let h = leads_steps (present (value_at levels level place)) in omega arith
evaluation_steps (Bracket e) levels = let h = evaluation_steps e levels in omega arith
evaluation_steps (Before op e) levels =
    let h = evaluation_steps e levels in
    let g = operand_steps (evaluation e levels) (weight e) 0 (λ x. gives (prefixed op (operand_label x))) (omega arith)
    (λ x. gives_steps _) in
    omega arith
evaluation_steps (Between op a b) levels =
    let h = evaluation_steps a levels in
    let g = evaluation_steps b levels in
    let t = operand_steps (evaluation a levels) ((evaluation a levels).steps)
    ((evaluation b levels).steps + (literal_length a + literal_length b))
    (λ x. unless_settled (settled op (truth_of (operand_label x))) (and_operand (evaluation b levels)
    (λ y. between op (literal_length a + literal_length b) (operand_label x) (operand_label y)))) (omega arith)
    (λ x. unless_steps (settled op (truth_of (operand_label x))) _ _
    (operand_steps (evaluation b levels) ((evaluation b levels).steps) (literal_length a + literal_length b) _
    (omega arith) (λ y. between_steps op (literal_length a + literal_length b) (operand_label x) (operand_label y)))) in
    omega arith
evaluation_steps (Choice common c x y) levels =
    let h = evaluation_steps c levels in
    let g = evaluation_steps x levels in
    let f = evaluation_steps y levels in
    let t = operand_steps (evaluation c levels) (weight c) (weight x + weight y + 0)
    (λ t. and_operand (chosen (truth_of (operand_label t)) (evaluation x levels) (evaluation y levels))
    (λ z. gives (as_common common (operand_label z)))) (omega arith)
    (λ t. operand_steps (chosen (truth_of (operand_label t)) (evaluation x levels) (evaluation y levels))
    (weight x + weight y) 0 (λ z. gives (as_common common (operand_label z)))
    (chosen_steps (truth_of (operand_label t)) (weight x) (weight y) (evaluation x levels) (evaluation y levels)
    (omega arith) (omega arith)) (λ z. gives_steps _)) in
    omega arith
evaluation_steps (Index e i) levels =
    let h = evaluation_steps e levels in
    let g = evaluation_steps i levels in
    let t = operand_steps (evaluation e levels) (weight e) (weight i + 0)
    (λ p. and_operand (evaluation i levels) (λ n. leads_to (element p (operand_label n)))) (omega arith)
    (λ p. operand_steps (evaluation i levels) (weight i) 0 (λ n. leads_to (element p (operand_label n))) (omega arith)
    (λ n. leads_steps _)) in
    omega arith
evaluation_steps (Select e place) levels =
    let h = evaluation_steps e levels in
    let g = operand_steps (evaluation e levels) (weight e) 0 (λ p. leads_to (present (selected p place))) (omega arith)
    (λ x. leads_steps _) in
    omega arith
evaluation_steps (AttributeOf attribute e) levels =
    let h = evaluation_steps e levels in
    let g = operand_steps (evaluation e levels) (weight e) 0 (λ p. gives (attribute_of attribute p)) (omega arith)
    (λ x. gives_steps _) in
    omega arith
evaluation_steps (ToInteger type e) levels =
    let h = evaluation_steps e levels in
    let g = operand_steps (evaluation e levels) (weight e) 0 (λ x. gives (to_integer type (operand_label x)))
    (omega arith) (λ x. gives_steps _) in
    omega arith
evaluation_steps (ToOffset type unit e) levels =
    let h = evaluation_steps e levels in
    let g = operand_steps (evaluation e levels) (weight e) 0 (λ x. gives (to_offset type unit (operand_label x)))
    (omega arith) (λ x. gives_steps _) in
    omega arith
evaluation_steps (InUnit unit e) levels =
    let h = evaluation_steps e levels in
    let g = operand_steps (evaluation e levels) (weight e) 0 (λ x. gives (in_unit unit (operand_label x))) (omega arith)
    (λ x. gives_steps _) in
    omega arith

clause_within : (c : Option Term) (levels : Levels) → clause_steps c levels ≤ optional_weight c
clause_within None levels = omega arith
clause_within (Some e) levels = let h = evaluation_steps e levels in omega arith

label_within : (pinned : Bool) (label : Option Term) (levels : Levels) →
    label_steps pinned label levels ≤ optional_weight label
label_within true label levels = omega arith
label_within false label levels = clause_within label levels

bound_within : (bound : Bound) (levels : Levels) → bound_steps bound levels ≤ bound_weight bound
bound_within Unbounded levels = omega arith
bound_within (ByCount e) levels = let h = evaluation_steps e levels in omega arith
bound_within (BySize e) levels = let h = evaluation_steps e levels in omega arith

-- ---- plans

pub at_most_more : {A : Type 0} {p : Plan A} {c : ℕ} (d : ℕ) → c ≤ d → AtMost p c → AtMost p d
at_most_more d le ended = ended
at_most_more d le (ticked c le' h) = ticked c (omega arith) h
at_most_more d le (noted h) = noted (at_most_more d le h)
at_most_more d le (given h) = given (λ n. at_most_more d le (h n))

at_most_after : {A : Type 0} (n : ℕ) (a : A) (c : ℕ) → n ≤ c → AtMost (after n a) c
at_most_after zero a c le = ended
at_most_after (suc n) a c le = ticked n (omega arith) (at_most_after n a n (omega arith))

at_most_then : {A B : Type 0} (f : A → Plan B) (d : ℕ) → ((a : A) → AtMost (f a) d) → {p : Plan A} {c : ℕ} →
    AtMost p c → AtMost (and_then p f) (c + d)
at_most_then f d g {c} (ended {a}) = at_most_more (c + d) (omega arith) (g a)
at_most_then f d g (ticked c le h) = ticked (c + d) (omega arith) (at_most_then f d g h)
at_most_then f d g (noted h) = noted (at_most_then f d g h)
at_most_then f d g (given h) = given (λ n. at_most_then f d g (h n))

at_most_value : {A B F : Type 0} (f : A → Plan (Result B F)) (d : ℕ) → ((a : A) → AtMost (f a) d) → (r : Result A F) →
    AtMost (on_value f r) d
at_most_value f d g (Ok a) = g a
at_most_value f d g (Err e) = ended

-- one after the other, within a sum
and_both : {A B : Type 0} {p : Plan A} (f : A → Plan B) (c d : ℕ) {e : ℕ} → c + d ≤ e → AtMost p c →
    ((a : A) → AtMost (f a) d) → AtMost (and_then p f) e
and_both f c d {e} le h g = at_most_more e le (at_most_then f d g h)

both : {A B F : Type 0} {p : Plan (Result A F)} (f : A → Plan (Result B F)) (c d : ℕ) {e : ℕ} → c + d ≤ e → AtMost p c →
    ((a : A) → AtMost (f a) d) → AtMost (then_ok p f) e
unfolding then_ok
both f c d {e} le h g = at_most_more e le (at_most_then (on_value f) d (at_most_value f d g) h)

at_most_frame : {A F : Type 0} (outer : Levels) (r : Result A F) → AtMost (leave_frame outer r) 0
at_most_frame outer (Ok a) = ended
at_most_frame outer (Err e) = noted ended

-- what is done with a frame takes no steps
framed_at_most : {A F : Type 0} {p : Plan (Result A F)} (outer : Levels) {c : ℕ} → AtMost p c →
    AtMost (framed outer p) c
unfolding framed
framed_at_most outer {c} h = noted (and_both _ c 0 (omega arith) h (at_most_frame outer))

-- it is closed with what was built in it
closed_at_most : {A B F : Type 0} {p : Plan (Result A F)} (outer : Levels) (f : A → Plan (Result B F)) {c : ℕ} →
    AtMost p c → ((a : A) → AtMost (f a) 0) → AtMost (framed outer (then_ok p f)) c
closed_at_most outer f {c} h g = framed_at_most outer (both f c 0 (omega arith) h g)

-- a choice
one_of : {A : Type 0} (b : Bool) {p q : Plan A} {c : ℕ} → AtMost p c → AtMost q c → AtMost (if b then p else q) c
one_of true h g = h
one_of false h g = g

constrained_at_most : (c : Option Term) (levels : Levels) (place : ℕ) (v : Value) →
    AtMost (constrained c levels place v) (optional_weight c)
unfolding constrained
constrained_at_most c levels place v = both _ (optional_weight c) 0 (omega arith)
    (at_most_after _ _ (optional_weight c) (clause_within c (pushed levels (Some v)))) (λ u. ended)

inside_at_most : {A : Type 0} (m s : ℕ) {p : Plan (Result A FaultAt)} {c : ℕ} → AtMost p c →
    AtMost (from_inside m s p) c
unfolding from_inside
inside_at_most m s h = one_of (nat_le s m) h ended

-- a number takes its type's bound without the first step
mutual
  unfolding number_plan cost

  number_at_most : (m : ℕ) (ty : PokeType) (n : ℕ) (levels : Levels) (s : ℕ) →
      AtMost (Tick (number_plan ty n levels s)) (cost ty m)
  number_at_most m (IntegerOf type) n levels s = ticked 0 (omega arith) (noted ended)
  number_at_most m (OffsetOf type unit) n levels s = ticked 0 (omega arith) (noted ended)
  number_at_most m StringOf n levels s = ticked 0 (omega arith) ended
  number_at_most m (ArrayOf element bound) n levels s = ticked 0 (omega arith) ended
  number_at_most m (StructOf name pinned _) n levels s = ticked 0 (omega arith) ended
  number_at_most m (IntegralOf name type fields) n levels s =
      ticked (parts_cost fields m) (omega arith)
      (closed_at_most levels _ (digits_at_most m fields n type.width (opened levels) s) (λ r. noted ended))
  number_at_most m (UnionOf name alternatives) n levels s = ticked 0 (omega arith) ended

  digits_at_most : (m : ℕ) (parts : Parts) (n left : ℕ) (levels : Levels) (s : ℕ) →
      AtMost (digits_plan parts n left levels s) (parts_cost parts m)
  digits_at_most m NoParts n left levels s = ended
  digits_at_most m (PartThen name order ty c rest) n left levels s =
      ticked ((cost ty m + optional_weight c) + parts_cost rest m) (omega arith)
      (both _ (cost ty m + optional_weight c) (parts_cost rest m) (omega arith)
      (both _ (cost ty m) (optional_weight c) (omega arith)
      (number_at_most m ty (first_digits n left (width_in (number_type ty))) levels s) (constrained_at_most c levels s))
      (λ v. digits_at_most m rest n (left - width_in (number_type ty)) (pushed levels (Some v)) s))

of_tick : {A : Type 0} {p : Plan A} {c : ℕ} → AtMost (Tick p) c → (1 ≤ c) × AtMost p (c - 1)
of_tick (ticked c' le h) = (omega arith, at_most_more _ (omega arith) h)

read_at_most : (m : ℕ) (ty : PokeType) (type : IntegerType) (order : Order) (levels : Levels) (s : ℕ) →
    AtMost (read_plan m ty type order levels s) (cost ty m)
unfolding read_plan
read_at_most m ty type order levels s =
    let one = (of_tick (number_at_most m ty 0 levels s)).0 in
    ticked (cost ty m - 1) (omega arith)
    (one_of (nat_le (s + type.width) m) (given (λ n. (of_tick (number_at_most m ty n levels s)).1)) ended)

after_at_most : (extent : Extent) (next : Levels → ℕ → Plan (Result Opened FaultAt)) (c : ℕ) →
    ((levels : Levels) (at : ℕ) → AtMost (next levels at) c) → (levels : Levels) (at : ℕ) (r : Result Value FaultAt) →
    AtMost (after_element extent next levels at r) c
unfolding after_element
after_at_most extent next c h levels at (Ok v) = one_of (nat_eq (end_of v) at) ended (h _ _)
after_at_most extent next c h levels at (Err f) = one_of (ends_before extent f.0) ended ended

elements_at_most : (element : Levels → ℕ → Plan (Result Value FaultAt)) (c m s : ℕ) (extent : Extent) →
    ((levels : Levels) (at : ℕ) → AtMost (element levels at) c) → (n i : ℕ) (levels : Levels) (at : ℕ) →
    AtMost (elements_plan element m s extent n i levels at) (n * (1 + c))
unfolding elements_plan
elements_at_most element c m s extent h zero i levels at = ended
elements_at_most element c m s extent h (suc n) i levels at =
    one_of (is_due extent m s i at)
    (ticked (c + n * (1 + c)) (omega arith)
    (and_both _ c (n * (1 + c)) (omega arith) (h levels at)
    (after_at_most extent (elements_plan element m s extent n (i + 1)) (n * (1 + c))
    (elements_at_most element c m s extent h n (i + 1)) levels at)))
    (one_of (is_met extent s at) ended ended)

attempt_at_most : (levels : Levels) (next : Plan (Result Taken FaultAt)) (c index : ℕ) (name : Naming) → AtMost next c →
    (r : Result Value FaultAt) → AtMost (after_attempt levels next index name r) c
unfolding after_attempt
attempt_at_most levels next c index name h (Ok v) = ended
attempt_at_most levels next c index name h (Err f) = one_of (misses f.0) (noted h) ended

text_at_most : (m n : ℕ) (bytes : List ℕ) (levels : Levels) (s place : ℕ) →
    AtMost (text_plan m n bytes levels s place) n
unfolding text_plan after_byte
text_at_most m zero bytes levels s place = ended
text_at_most m (suc n) bytes levels s place = ticked n (omega arith)
    (one_of (nat_le (place + 8) m) (given (read (λ more. text_at_most m n more levels s (place + 8)))) ended)
  where
    read : ((more : List ℕ) → AtMost (text_plan m n more levels s (place + 8)) n) → (x : ℕ) →
        AtMost (after_byte (λ more. text_plan m n more levels s (place + 8)) bytes levels s (place + 8) x) n
    read next zero = noted ended
    read next (suc x) = noted (next (bytes ++ suc x ∷ []))

mutual
  unfolding plan cost

  pub plan_at_most : (m : ℕ) (ty : PokeType) (order : Order) (levels : Levels) (s : ℕ) →
      AtMost (plan m ty order levels s) (cost ty m)
  plan_at_most m (IntegerOf type) order levels s =
      inside_at_most m s (read_at_most m (IntegerOf type) type order levels s)
  plan_at_most m (OffsetOf type unit) order levels s =
      inside_at_most m s (read_at_most m (OffsetOf type unit) type order levels s)
  plan_at_most m StringOf order levels s = inside_at_most m s
      (ticked (m / 8 + 1) (omega arith) (framed_at_most levels (text_at_most m (m / 8 + 1) [] levels s s)))
  plan_at_most m (ArrayOf element bound) order levels s =
      inside_at_most m s
      (ticked (bound_weight bound + count_of m (least_width element) * (1 + cost element m)) (omega arith)
      (both _ (bound_weight bound) (count_of m (least_width element) * (1 + cost element m)) (omega arith)
      (at_most_after _ _ (bound_weight bound) (bound_within bound levels)) (λ extent.
      framed_at_most levels (both _ (count_of m (least_width element) * (1 + cost element m)) 0 (omega arith)
      (elements_at_most (element_plan element (plan m element order)) (cost element m) m s extent
      (λ l p. element_at_most (row_of element) l (plan_at_most m element order l p))
      (count_of m (least_width element)) 0
      (opened levels) s) (λ r. noted ended)))))
  plan_at_most m (StructOf name pinned fields) order levels s =
      inside_at_most m s (ticked (fields_cost fields m) (omega arith)
      (closed_at_most levels _ (fields_at_most m pinned s fields order (opened levels) s s) (λ r. noted ended)))
  plan_at_most m (IntegralOf name type fields) order levels s =
      inside_at_most m s (read_at_most m (IntegralOf name type fields) type order levels s)
  plan_at_most m (UnionOf name alternatives) order levels s =
      inside_at_most m s (ticked (parts_cost alternatives m) (omega arith)
      (closed_at_most levels _ (alternatives_at_most m alternatives 0 order (opened levels) s) (λ t. noted ended)))

  fields_at_most : (m : ℕ) (pinned : Bool) (s : ℕ) (fields : Fields) (order : Order) (levels : Levels)
      (behind top : ℕ) → AtMost (fields_plan m pinned s fields order levels behind top) (fields_cost fields m)
  fields_at_most m pinned s NoFields order levels behind top = ended
  fields_at_most m pinned s (FieldThen name set ty c label when rest) order levels behind top =
      ticked (optional_weight when + (optional_weight label + ((cost ty m + optional_weight c) + fields_cost rest m)))
      (omega arith)
      (both _ (optional_weight when) (optional_weight label + ((cost ty m + optional_weight c) + fields_cost rest m))
      (omega arith) (at_most_after _ _ (optional_weight when) (clause_within when levels)) (λ there. one_of there
      (both _ (optional_weight label) ((cost ty m + optional_weight c) + fields_cost rest m) (omega arith)
      (at_most_after _ _ (optional_weight label) (label_within pinned label levels)) (λ p.
      both _ (cost ty m + optional_weight c) (fields_cost rest m) (omega arith)
      (both _ (cost ty m) (optional_weight c) (omega arith) (plan_at_most m ty (ordered set order) levels p)
      (constrained_at_most c levels p))
      (λ v. fields_at_most m pinned s rest order (pushed levels (Some v)) (end_of v) (max top (end_of v)))))
      (noted (at_most_more _ (omega arith) (fields_at_most m pinned s rest order (pushed levels None) behind top)))))

  alternatives_at_most : (m : ℕ) (parts : Parts) (index : ℕ) (order : Order) (levels : Levels) (s : ℕ) →
      AtMost (alternatives_plan m parts index order levels s) (parts_cost parts m)
  alternatives_at_most m NoParts index order levels s = ended
  alternatives_at_most m (PartThen name set ty c rest) index order levels s =
      ticked ((cost ty m + optional_weight c) + parts_cost rest m) (omega arith)
      (and_both _ (cost ty m + optional_weight c) (parts_cost rest m) (omega arith)
      (both _ (cost ty m) (optional_weight c) (omega arith) (plan_at_most m ty (ordered set order) levels s)
      (constrained_at_most c levels s))
      (attempt_at_most levels _ (parts_cost rest m) index name
      (alternatives_at_most m rest (index + 1) order levels s)))
