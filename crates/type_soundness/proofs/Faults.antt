-- A fault that a well typed type means is given by no fallback.
use Rattle.std.proofs.Common.{◌≡◌, ℕ, ◌+◌, ◌≤◌, List, [], length, Bool, true, false, Option, Some, None, Result, Ok, Err, ℤ, pos, negsuc, refl, sym, ap, ◌∙◌, subst}
use Rattle.std.proofs.lemmas.Option.{none-some}
use Rattle.bit_space.specs.declared.order.Order.{Order}
use Rattle.pickle_tree.specs.Tree.{Tree, Called, FormTree, Plain, ArrayForm, StructForm, IntegralForm, UnionForm, FieldTrees, DeclarationTree}
use Rattle.pickle_tree.specs.Tree as tree
use Rattle.pickle_types.specs.declared.integer.IntegerType.{IntegerType}
use Rattle.pickle_types.specs.Types.{Term, Bound, Unbounded, ByCount, BySize, PokeType, IntegerOf, OffsetOf, ArrayOf, Fields, FieldThen, Parts, PartThen}
use Rattle.pickle_types.specs.Scopes.{Visible, sees}
use Rattle.pickle_types.specs.Expressions.{Typed}
use Rattle.pickle_types.specs.WellTyped.{HasWidth}
use Rattle.pickle_meaning.specs.declared.extent.Extent.{Extent}
use Rattle.pickle_meaning.specs.declared.extent.Extent.TheVariants as extent
use Rattle.pickle_meaning.specs.declared.faults.MapFaultKind.{MapFaultKind}
use Rattle.pickle_meaning.specs.declared.faults.MapFaultKind.TheVariants as fault
use Rattle.pickle_meaning.specs.Values.{Naming, Label, Levels, Value, pushed, opened, top_of}
use Rattle.pickle_meaning.specs.Arithmetic.{bits_in}
use Rattle.pickle_meaning.specs.Evaluation.{Operand, operand_label, truth_of, evaluation}
use Rattle.pickle_meaning.specs.Clauses.{FaultAt, told_at, kind_at, satisfied, constraint, condition, not_negative, behind_start, field_start, count_of, size_of, extent_of}
use Rattle.pickle_meaning.specs.Means.{number_type, Means, past_end, number_read, number_end, string, string_end, array, bound_fault, struct, struct_fault, union, union_fault, NumberMeans, integer, offset, integral, integral_fault, no_number, DigitsMean, no_digits, next_digits, digits_refused, digits_fault, Elements, Closing, none_due, beyond_size, no_bits, ends_without, element_fault, PartMeans, part, part_refused, part_fault, FieldsMean, all_fields, absent, field, condition_fault, label_fault, field_fault, AlternativesMean, none_left, fits, misses_it, other_fault, Opened, Taken}
use Rattle.type_soundness.specs.Sorts.{IsOutcome}
use Rattle.type_soundness.specs.Derivations.{Yields}
use Rattle.type_soundness.specs.Laws.{IsSafe}
use Rattle.type_soundness.specs.Evaluated.{Scope, with_field, Purpose, Truth, Start, Count, Size, Evaluated, for_purpose, NumberEvaluates, number_named, in_digits, DigitsEvaluate, in_number, number_constraint, behind_number, Evaluates, in_named, in_number_read, array_count, array_size, in_element, in_fields, in_alternatives, PartEvaluates, in_part, part_constraint, FieldsEvaluate, field_condition, field_label, in_field, behind_absent, behind_field, AlternativesEvaluate, in_alternative, behind_miss}
use Rattle.type_soundness.specs.Yielded.{IsYielded, bits_end, unmet, out_of_bounds, element_of_no_bits, of_expression}
use Rattle.type_soundness.specs.MappingLaws.{ScopeFits}
use Rattle.type_soundness.proofs.Safe.{safe}
use Rattle.type_soundness.proofs.Results.{integer_label, offset_label, truth_of_integer}
use Rattle.type_soundness.proofs.Levels.{opened_scope, seen_scope, pushed_length}
use Rattle.type_soundness.proofs.Trees.{HasTree, TruthFits, LabelFits, BoundFits, Leads, here, by_name, scope_in, leads_scope, IsWell, FieldsWell, PartsWell, AlternativesWell}
use Rattle.type_soundness.proofs.Values.{number_is, value_is, part_is}
use Rattle.type_soundness.proofs.Evaluations.{elements_scope}

-- ---- results

abbrev IsErrOf : {A : Type 0} → FaultAt → Result A FaultAt → Type 0
IsErrOf f (Ok a) = ⊥
IsErrOf f (Err g) = g ≡ f

pub ok_err : {A : Type 0} {C : Type 0} (a : A) (f : FaultAt) → Ok a ≡ Err f → C
ok_err {A} a f e = absurd (subst (IsErrOf {A = A} f) (sym e) refl)

abbrev failed : (A : Type 0) → FaultAt → Result A FaultAt
failed A f = Err f

same_fault : (A : Type 0) (g f : FaultAt) → failed A g ≡ failed A f → g ≡ f
same_fault A g f e = subst (IsErrOf {A = A} f) (sym e) refl

-- a fault is yielded; nothing is said of a value
abbrev pub YieldedOr : {A : Type 0} → (Evaluated → Type 0) → Result A FaultAt → Type 0
YieldedOr Among (Ok a) = Unit {0}
YieldedOr Among (Err f) = IsYielded Among f

pub lifted : {P Q : Evaluated → Type 0} {f : FaultAt} → ((a : Evaluated) → P a → Q a) → IsYielded P f → IsYielded Q f
lifted g bits_end = bits_end
lifted g unmet = unmet
lifted g out_of_bounds = out_of_bounds
lifted g element_of_no_bits = element_of_no_bits
lifted g (of_expression a h y) = of_expression a (g a h) y

lifted_or : {A : Type 0} {P Q : Evaluated → Type 0} (r : Result A FaultAt) → ((a : Evaluated) → P a → Q a) →
    YieldedOr P r → YieldedOr Q r
lifted_or (Ok a) g h = tt
lifted_or (Err f) g h = lifted g h

-- ---- clauses

module _ (Among : Evaluated → Type 0) (scope : Scope) (levels : Levels) (place : ℕ) (f : FaultAt)
    (written : Option Tree) (e : Term) where
  by_fault : (A : Type 0) (g : FaultAt) → IsYielded Among g → failed A g ≡ failed A f → IsYielded Among f
  by_fault A g h is = subst (IsYielded Among) (same_fault A g f is) h

  -- what an expression gives whose value is of a type
  told : {A : Type 0} (purpose : Purpose) (type : PokeType) (make : Label → Result A FaultAt)
      (o : Result Operand MapFaultKind) (k : ℕ) → Among (for_purpose purpose written e scope levels place) →
      Yields levels e o k → IsOutcome (Typed type) o →
      ((x : Operand) → IsOutcome (Typed type) (Ok x) → make (operand_label x) ≡ Err f → IsYielded Among f) →
      told_at place make o ≡ Err f → IsYielded Among f
  told {A} purpose type make (Ok x) k among y h value is = value x h is
  told {A} purpose type make (Err kind) k among y h value is =
      by_fault A (kind, place) (of_expression (for_purpose purpose written e scope levels place) among y) is

  -- the same for its evaluation
  evaluated : {A : Type 0} (purpose : Purpose) (type : PokeType) (make : Label → Result A FaultAt) →
      Among (for_purpose purpose written e scope levels place) → IsSafe levels e (Typed type) (evaluation e levels) →
      ((x : Operand) → IsOutcome (Typed type) (Ok x) → make (operand_label x) ≡ Err f → IsYielded Among f) →
      told_at place make (evaluation e levels).outcome ≡ Err f → IsYielded Among f
  evaluated purpose type make among h value is =
      told purpose type make (evaluation e levels).outcome (evaluation e levels).steps among h.yields h.outcome value is

  unsatisfied : (b : Bool) → satisfied place (Ok b) ≡ Err f → IsYielded Among f
  unsatisfied true is = ok_err tt f is
  unsatisfied false is = by_fault (Unit {0}) (fault.Constraint, place) unmet is

  constraint_yields : (w : IntegerType) → Among (for_purpose Truth written e scope levels place) →
      IsSafe levels e (Typed (IntegerOf w)) (evaluation e levels) →
      constraint (Some e) levels place ≡ Err f → IsYielded Among f
  unfolding constraint
  constraint_yields w among h is = evaluated Truth (IntegerOf w) (λ x. satisfied place (truth_of x)) among h
      (λ x m g. let u = truth_of_integer w x m in unsatisfied u.0 (ap (satisfied place) (sym u.1) ∙ g)) is

  condition_yields : (w : IntegerType) → Among (for_purpose Truth written e scope levels place) →
      IsSafe levels e (Typed (IntegerOf w)) (evaluation e levels) →
      condition (Some e) levels place ≡ Err f → IsYielded Among f
  unfolding condition
  condition_yields w among h is = evaluated Truth (IntegerOf w) (λ x. kind_at place (truth_of x)) among h
      (λ x m g. let u = truth_of_integer w x m in ok_err u.0 f (ap (kind_at place) (sym u.1) ∙ g)) is

  negative : {A : Type 0} (make : ℕ → A) (z : ℤ) → not_negative place make z ≡ Err f → IsYielded Among f
  negative make (pos n) is = ok_err (make n) f is
  negative {A} make (negsuc n) is = by_fault A (fault.Bounds, place) out_of_bounds is

  label_yields : (w : IntegerType) (unit behind : ℕ) → Among (for_purpose Start written e scope levels place) →
      IsSafe levels e (Typed (OffsetOf w unit)) (evaluation e levels) →
      field_start false (Some e) levels place behind ≡ Err f → IsYielded Among f
  unfolding field_start
  label_yields w unit behind among h is = evaluated Start (OffsetOf w unit) (behind_start place) among h
      (λ x m g. let u = offset_label x m in
      negative (λ n. place + n) (bits_in u.0 unit) (ap (behind_start place) (sym u.1) ∙ g)) is

  count_yields : (w : IntegerType) → Among (for_purpose Count written e scope levels place) →
      IsSafe levels e (Typed (IntegerOf w)) (evaluation e levels) →
      extent_of (ByCount e) levels place ≡ Err f → IsYielded Among f
  unfolding extent_of
  count_yields w among h is = evaluated Count (IntegerOf w) (count_of place) among h
      (λ x m g. let u = integer_label x m in negative extent.Count u.0 (ap (count_of place) (sym u.1) ∙ g)) is

  size_yields : (w : IntegerType) (unit : ℕ) → Among (for_purpose Size written e scope levels place) →
      IsSafe levels e (Typed (OffsetOf w unit)) (evaluation e levels) →
      extent_of (BySize e) levels place ≡ Err f → IsYielded Among f
  unfolding extent_of
  size_yields w unit among h is = evaluated Size (OffsetOf w unit) (size_of place) among h
      (λ x m g. let u = offset_label x m in negative extent.Size (bits_in u.0 unit) (ap (size_of place) (sym u.1) ∙ g))
      is

-- ---- the same along the types

module _ (Among : Evaluated → Type 0) (scope : Scope) (seen : List Visible) (count : ℕ) (levels : Levels) (place : ℕ)
    (f : FaultAt) (ok : ScopeFits scope seen count levels) (written : Option Tree) where
  tree_safe : (e : Term) (type : PokeType) → HasTree seen count written e (Typed type) →
      IsSafe levels e (Typed type) (evaluation e levels)
  tree_safe e type h = safe h.names seen count h.tree e (Typed type) levels h.typed ok.fit

  refused : (c : Option Term) → ((e : Term) → c ≡ Some e → Among (for_purpose Truth written e scope levels place)) →
      TruthFits seen count written c → constraint c levels place ≡ Err f → IsYielded Among f
  unfolding constraint
  refused None among t is = ok_err tt f is
  refused (Some e) among t is =
      constraint_yields Among scope levels place f written e t.0 (among e refl) (tree_safe e (IntegerOf t.0) t.1) is

  conditioned : (c : Option Term) → ((e : Term) → c ≡ Some e → Among (for_purpose Truth written e scope levels place)) →
      TruthFits seen count written c → condition c levels place ≡ Err f → IsYielded Among f
  unfolding condition
  conditioned None among t is = ok_err true f is
  conditioned (Some e) among t is =
      condition_yields Among scope levels place f written e t.0 (among e refl) (tree_safe e (IntegerOf t.0) t.1) is

  labelled : (behind : ℕ) (pinned : Bool) (label : Option Term) →
      ((e : Term) → pinned ≡ false → label ≡ Some e → Among (for_purpose Start written e scope levels place)) →
      LabelFits seen count written label →
      field_start pinned label levels place behind ≡ Err f → IsYielded Among f
  unfolding field_start
  labelled behind true label among t is = ok_err place f is
  labelled behind false None among t is = ok_err behind f is
  labelled behind false (Some e) among t is = label_yields Among scope levels place f written e t.0 t.1 behind
      (among e refl refl) (tree_safe e (OffsetOf t.0 t.1) t.2) is

  bounded : (bound : Bound) →
      ((e : Term) → bound ≡ ByCount e → Among (for_purpose Count written e scope levels place)) →
      ((e : Term) → bound ≡ BySize e → Among (for_purpose Size written e scope levels place)) →
      BoundFits seen count written bound → extent_of bound levels place ≡ Err f → IsYielded Among f
  unfolding extent_of
  bounded Unbounded counts sizes t is = ok_err extent.Open f is
  bounded (ByCount e) counts sizes t is =
      count_yields Among scope levels place f written e t.0 (counts e refl) (tree_safe e (IntegerOf t.0) t.1) is
  bounded (BySize e) counts sizes t is =
      size_yields Among scope levels place f written e t.0 t.1 (sizes e refl) (tree_safe e (OffsetOf t.0 t.1) t.2) is

-- ---- forms that lead to others

module _ (declarations : List DeclarationTree) where
  number_leads : {form g : FormTree} {seen inner : List Visible} {count c : ℕ} {ty : PokeType} {n : ℕ} {levels : Levels}
      {s : ℕ} {a : Evaluated} (l : Leads declarations seen count form inner c g) (scope : Scope) →
      NumberEvaluates declarations g ty n (scope_in l scope) levels s a →
      NumberEvaluates declarations form ty n scope levels s a
  number_leads here scope d = d
  number_leads (by_name e l) scope d = number_named e (number_leads l [] d)

  leads : {bits : List ℕ} {form g : FormTree} {seen inner : List Visible} {count c : ℕ} {ty : PokeType} {order : Order}
      {levels : Levels} {s : ℕ} {a : Evaluated} (l : Leads declarations seen count form inner c g) (scope : Scope) →
      Evaluates declarations bits g ty order (scope_in l scope) levels s a →
      Evaluates declarations bits form ty order scope levels s a
  leads here scope d = d
  leads (by_name e l) scope d = in_named e (leads l [] d)

  -- what may be named in a frame that is opened where a form leads
  inside_scope : {form g : FormTree} {seen inner : List Visible} {count c : ℕ}
      (l : Leads declarations seen count form inner c g) (scope : Scope) (levels : Levels) →
      ScopeFits scope seen count levels →
      ScopeFits (scope_in l scope) inner (c + 1) (opened levels)
  inside_scope {inner} {c} l scope levels ok =
      opened_scope (scope_in l scope) inner c levels (leads_scope l scope levels ok)

-- ---- integral structs

-- a type that is read as a number
abbrev IsNumber : PokeType → Type 0
IsNumber ty = (type : IntegerType) × (number_type ty ≡ Some type)

has_number : {ty : PokeType} → HasWidth ty → IsNumber ty
has_number (HasWidth.of_integer {t}) = (t, refl)
has_number (HasWidth.of_offset {t}) = (t, refl)
has_number (HasWidth.of_integral {t}) = (t, refl)

module _ (declarations : List DeclarationTree) where
  mutual
    unfolding IsWell

    number_yields : {ty : PokeType} {n : ℕ} {levels : Levels} {s k j : ℕ} {r : Result Value FaultAt} →
        NumberMeans ty n levels s r k j → (form : FormTree) (scope : Scope) (seen : List Visible) (count : ℕ) →
        IsNumber ty → IsWell declarations ty form seen count → ScopeFits scope seen count levels →
        YieldedOr (NumberEvaluates declarations form ty n scope levels s) r
    number_yields integer form scope seen count is w ok = tt
    number_yields offset form scope seen count is w ok = tt
    number_yields (integral ds) form scope seen count is w ok = tt
    number_yields (integral_fault {levels} ds) form scope seen count is w ok =
        lifted (λ a d. number_leads declarations w.4 scope (in_digits d))
        (digits_yield ds w.3 (scope_in w.4 scope) w.0 w.1 0 w.5 (inside_scope declarations w.4 scope levels ok) refl)
    number_yields (no_number e) form scope seen count is w ok = absurd (none-some is.0 (sym e ∙ is.1))

    digits_yield : {fields : Parts} {n left : ℕ} {levels : Levels} {s k j : ℕ} {r : Result Levels FaultAt} →
        DigitsMean fields n left levels s r k j →
        (forms : FieldTrees) (scope : Scope) (seen : List Visible) (count at : ℕ) →
        PartsWell declarations fields forms seen count at → ScopeFits scope seen (count + 1) levels →
        length (top_of levels) ≡ at → YieldedOr (DigitsEvaluate declarations forms fields n left scope levels s) r
    digits_yield no_digits forms scope seen count at w ok e = tt
    digits_yield (next_digits m h ds) tree.NoFields scope seen count at w ok e = absurd w
    digits_yield (next_digits {name} {ty} {levels} {v} {r} m h ds) (tree.FieldThen form parts forms) scope
        seen count at w ok e =
        lifted_or r (λ a d. behind_number m h d)
        (digits_yield ds forms (with_field scope name (Some v)) (sees seen count at name ty) count (at + 1) w.3
        (seen_scope scope seen count at levels name ty (Some v) e (number_is m) ok)
        (pushed_length levels (Some v) at e))
    digits_yield (digits_refused m h) tree.NoFields scope seen count at w ok e = absurd w
    digits_yield (digits_refused {name} {order} {ty} {c} {rest} {n} {left} {levels} {s} {v} {f} m h)
        (tree.FieldThen form parts forms) scope seen count at w ok e =
        refused (DigitsEvaluate declarations (tree.FieldThen form parts forms) (PartThen name order ty c rest) n left
        scope levels s)
        (with_field scope name (Some v)) (sees seen count at name ty) (count + 1) (pushed levels (Some v)) s f
        (seen_scope scope seen count at levels name ty (Some v) e (number_is m) ok) parts.constraint c
        (λ x same. rw same (number_constraint m)) w.2 h
    digits_yield (digits_fault m) tree.NoFields scope seen count at w ok e = absurd w
    digits_yield (digits_fault m) (tree.FieldThen form parts forms) scope seen count at w ok e =
        lifted (λ a d. in_number d) (number_yields m form scope seen (count + 1) (has_number w.0) w.1 ok)

  -- ---- all types

  mutual
    unfolding IsWell

    pub fault_yields : {bits : List ℕ} {ty : PokeType} {order : Order} {levels : Levels} {s k j : ℕ}
        {r : Result Value FaultAt} →
        Means bits ty order levels s r k j → (form : FormTree) (scope : Scope) (seen : List Visible) (count : ℕ) →
        IsWell declarations ty form seen count → ScopeFits scope seen count levels →
        YieldedOr (Evaluates declarations bits form ty order scope levels s) r
    fault_yields (past_end lt) form scope seen count w ok = bits_end
    fault_yields (number_read {type} {r} le e inside m) form scope seen count w ok =
        lifted_or r (λ a d. in_number_read le e inside d) (number_yields m form scope seen count (type, e) w ok)
    fault_yields (number_end le e lt) form scope seen count w ok = bits_end
    fault_yields (string le run inside z) form scope seen count w ok = tt
    fault_yields (string_end le run lt) form scope seen count w ok = bits_end
    fault_yields (array {bound} {levels} {k} {j} {r} le b es c) form scope seen count w ok =
        lifted_or r (λ a d. leads declarations w.4 scope d)
        (closing_yields c w.2 w.3 bound levels k j le b es (scope_in w.4 scope) w.0 (w.1 + 1) w.5
        (elements_scope es (scope_in w.4 scope) w.0 (w.1 + 1) (inside_scope declarations w.4 scope levels ok)))
    fault_yields {bits} (bound_fault {ty} {bound} {order} {levels} {s} {f} le b) form scope seen count w ok =
        lifted (λ a d. leads declarations w.4 scope d)
        (bounded
        (Evaluates declarations bits (ArrayForm w.2 w.3) (ArrayOf ty bound) order (scope_in w.4 scope) levels s)
        (scope_in w.4 scope) w.0 w.1 levels s f (leads_scope w.4 scope levels ok) w.3 bound
        (λ x same. rw same (array_count le)) (λ x same. rw same (array_size le)) w.6 b)
    fault_yields (struct le fs) form scope seen count w ok = tt
    fault_yields (struct_fault {levels} le fs) form scope seen count w ok =
        lifted (λ a d. leads declarations w.3 scope (in_fields le d))
        (fields_yield fs w.2 (scope_in w.3 scope) w.0 w.1 0 w.4 (inside_scope declarations w.3 scope levels ok) refl)
    fault_yields (union le os) form scope seen count w ok = tt
    fault_yields (union_fault {levels} le os) form scope seen count w ok =
        lifted (λ a d. leads declarations w.3 scope (in_alternatives le d)) (alternatives_yield os w.2
        (scope_in w.3 scope) w.0 w.1 w.4 (inside_scope declarations w.3 scope levels ok) refl)

    closing_yields : {bits : List ℕ} {ty : PokeType} {order : Order} {s : ℕ} {extent : Extent} {n : ℕ} {inside : Levels}
        {pn k j : ℕ} {r : Result Value FaultAt} → Closing bits ty order s extent n inside pn r k j →
        (form : FormTree) (written : Option Tree) (bound : Bound) (levels : Levels) (k0 j0 : ℕ) → s ≤ length bits →
        extent_of bound levels s ≡ Ok extent → Elements bits ty order s extent 0 (opened levels) s n inside pn k0 j0 →
        (scope : Scope) (seen : List Visible) (count : ℕ) → IsWell declarations ty form seen count →
        ScopeFits scope seen count inside →
        YieldedOr (Evaluates declarations bits (ArrayForm form written) (ArrayOf ty bound) order scope levels s) r
    closing_yields (none_due over met) form written bound levels k0 j0 le b es scope seen count w ok = tt
    closing_yields (beyond_size over met) form written bound levels k0 j0 le b es scope seen count w ok = out_of_bounds
    closing_yields (no_bits due m e) form written bound levels k0 j0 le b es scope seen count w ok = element_of_no_bits
    closing_yields (ends_without due m e) form written bound levels k0 j0 le b es scope seen count w ok = tt
    closing_yields (element_fault due m e) form written bound levels k0 j0 le b es scope seen count w ok =
        lifted (λ a d. in_element le b es due d) (fault_yields m form scope seen count w ok)

    -- a field or an alternative that is the member of number `at` of its frame
    part_yields : {bits : List ℕ} {ty : PokeType} {c : Option Term} {order : Order} {levels : Levels} {s k j : ℕ}
        {r : Result Value FaultAt} → PartMeans bits ty c order levels s r k j →
        (form : FormTree) (written : Option Tree) (name : Naming) (scope : Scope) (seen : List Visible) (count at : ℕ) →
        IsWell declarations ty form seen (count + 1) → TruthFits (sees seen count at name ty) (count + 1) written c →
        ScopeFits scope seen (count + 1) levels → length (top_of levels) ≡ at →
        YieldedOr (PartEvaluates declarations bits form written name ty c order scope levels s) r
    part_yields (part m h) form written name scope seen count at w t ok e = tt
    part_yields {bits} (part_refused {ty} {c} {order} {levels} {s} {v} {f} m h) form written name scope
        seen count at w t ok e =
        refused (PartEvaluates declarations bits form written name ty c order scope levels s)
        (with_field scope name (Some v)) (sees seen count at name ty) (count + 1) (pushed levels (Some v)) s f
        (seen_scope scope seen count at levels name ty (Some v) e (value_is m) ok) written c
        (λ x same. rw same (part_constraint m)) t h
    part_yields (part_fault m) form written name scope seen count at w t ok e =
        lifted (λ a d. in_part d) (fault_yields m form scope seen (count + 1) w ok)

    fields_yield : {bits : List ℕ} {pinned : Bool} {s : ℕ} {fields : Fields} {order : Order} {levels : Levels}
        {behind top k j : ℕ} {r : Result Opened FaultAt} →
        FieldsMean bits pinned s fields order levels behind top r k j →
        (forms : FieldTrees) (scope : Scope) (seen : List Visible) (count at : ℕ) →
        FieldsWell declarations fields forms seen count at → ScopeFits scope seen (count + 1) levels →
        length (top_of levels) ≡ at →
        YieldedOr (FieldsEvaluate declarations bits pinned s forms fields order scope levels behind) r
    fields_yield all_fields forms scope seen count at w ok e = tt
    fields_yield (absent h fs) tree.NoFields scope seen count at w ok e = absurd w
    fields_yield (absent {name} {ty} {levels} {r} h fs) (tree.FieldThen form parts forms) scope seen count at w ok e =
        lifted_or r (λ a d. behind_absent h d)
        (fields_yield fs forms (with_field scope name None) (sees seen count at name ty) count (at + 1) w.4
        (seen_scope scope seen count at levels name ty None e tt ok) (pushed_length levels None at e))
    fields_yield (field h st m fs) tree.NoFields scope seen count at w ok e = absurd w
    fields_yield (field {name} {ty} {levels} {v} {r} h st m fs) (tree.FieldThen form parts forms) scope
        seen count at w ok e =
        lifted_or r (λ a d. behind_field h st m d)
        (fields_yield fs forms (with_field scope name (Some v)) (sees seen count at name ty) count (at + 1) w.4
        (seen_scope scope seen count at levels name ty (Some v) e (part_is m) ok) (pushed_length levels (Some v) at e))
    fields_yield (condition_fault h) tree.NoFields scope seen count at w ok e = absurd w
    fields_yield {bits} (condition_fault {pinned} {name} {set} {ty} {c} {label} {when} {rest} {order} {levels} {s}
        {behind} {f} h) (tree.FieldThen form parts forms) scope seen count at w ok e =
        conditioned (FieldsEvaluate declarations bits pinned s (tree.FieldThen form parts forms)
        (FieldThen name set ty c label when rest) order scope levels behind)
        scope seen (count + 1) levels s f ok parts.condition when
        (λ x same. rw same field_condition) w.2 h
    fields_yield (label_fault h st) tree.NoFields scope seen count at w ok e = absurd w
    fields_yield {bits} (label_fault {pinned} {name} {set} {ty} {c} {label} {when} {rest} {order} {levels} {s} {behind}
        {f} h st) (tree.FieldThen form parts forms) scope seen count at w ok e =
        labelled (FieldsEvaluate declarations bits pinned s (tree.FieldThen form parts forms)
        (FieldThen name set ty c label when rest) order scope levels behind)
        scope seen (count + 1) levels s f ok parts.label behind pinned label
        (λ x pin same. rw pin (rw same (field_label h))) w.1 st
    fields_yield (field_fault h st m) tree.NoFields scope seen count at w ok e = absurd w
    fields_yield (field_fault {name} h st m) (tree.FieldThen form parts forms) scope seen count at w ok e =
        lifted (λ a d. in_field h st d) (part_yields m form parts.constraint name scope seen count at w.0 w.3 ok e)

    alternatives_yield : {bits : List ℕ} {alternatives : Parts} {index : ℕ} {order : Order} {levels : Levels}
        {s k j : ℕ} {r : Result Taken FaultAt} → AlternativesMean bits alternatives index order levels s r k j →
        (forms : FieldTrees) (scope : Scope) (seen : List Visible) (count : ℕ) →
        AlternativesWell declarations alternatives forms seen count → ScopeFits scope seen (count + 1) levels →
        length (top_of levels) ≡ 0 →
        YieldedOr (AlternativesEvaluate declarations bits forms alternatives order scope levels s) r
    alternatives_yield none_left forms scope seen count w ok e = unmet
    alternatives_yield (fits m) forms scope seen count w ok e = tt
    alternatives_yield (misses_it m h os) tree.NoFields scope seen count w ok e = absurd w
    alternatives_yield (misses_it {r} m h os) (tree.FieldThen form parts forms) scope seen count w ok e =
        lifted_or r (λ a d. behind_miss m h d) (alternatives_yield os forms scope seen count w.2 ok e)
    alternatives_yield (other_fault m h) tree.NoFields scope seen count w ok e = absurd w
    alternatives_yield (other_fault {name} m h) (tree.FieldThen form parts forms) scope seen count w ok e =
        lifted (λ a d. in_alternative d) (part_yields m form parts.constraint name scope seen count 0 w.0 w.1 ok e)
