-- A constraint over one number comes to the same in all frames that have the number at its place.
use Rattle.std.proofs.Common.{◌≡◌, ℕ, zero, suc, ◌+◌, Bool, true, false, Option, Some, None, Result, Ok, Err, refl, sym, ap, ◌∙◌, subst, arith}
use Rattle.std.specs.Prelude.{◌&&◌}
use Rattle.pickle_tree.specs.declared.tree.Infix.{Infix}
use Rattle.pickle_types.specs.Types.{Term, Number, Text, Name, Bracket, Before, Between, Choice, Index, Select, AttributeOf, ToInteger, ToOffset, InUnit}
use Rattle.pickle_meaning.specs.declared.faults.MapFaultKind.{MapFaultKind}
use Rattle.pickle_meaning.specs.declared.faults.MapFaultKind.TheVariants as fault
use Rattle.pickle_meaning.specs.Arithmetic.{Computed, prefixed, to_integer, to_offset, in_unit}
use Rattle.pickle_meaning.specs.Clauses.{FaultAt, told_at, satisfied, constraint}
use Rattle.pickle_meaning.specs.Evaluation.{Operand, operand_label, Evaluation, evaluation, gives, and_operand, on_outcome, with_steps, unless_settled, settled, truth_of, between, literal_length, leads_to, present}
use Rattle.pickle_meaning.specs.Values.{Label, Value, label_of, Levels, value_at}
use Rattle.first_numbers.specs.Judged.{told}
use Rattle.first_numbers.specs.Layouts.{is_over_own, is_own}

-- two evaluations come to the same, in as many steps
pub record Alike (a b : Evaluation) : Type 0 where
  pub same : told a.outcome ≡ told b.outcome
  pub steps : a.steps ≡ b.steps

abbrev label_or : Label → Computed → Label
label_or d (Ok x) = x
label_or d (Err kind) = d

abbrev kind_or : MapFaultKind → Computed → MapFaultKind
kind_or d (Ok x) = d
kind_or d (Err kind) = kind

abbrev IsOkay : Computed → Type 0
IsOkay (Ok x) = Unit {0}
IsOkay (Err kind) = ⊥

pub alike_self : (a : Evaluation) → Alike a a
alike_self a = record { same = refl; steps = refl }

alike_more : (n : ℕ) {a b : Evaluation} → Alike a b → Alike (with_steps n a) (with_steps n b)
alike_more n h = record { same = h.same; steps = ap (λ k. n + k) h.steps }

alike_on : (o o' : Result Operand MapFaultKind) (k k' : ℕ) (f g : Operand → Evaluation) → told o ≡ told o' → k ≡ k' →
    ((x y : Operand) → operand_label x ≡ operand_label y → Alike (f x) (g y)) →
    Alike (on_outcome o k f) (on_outcome o' k' g)
alike_on (Ok x) (Ok y) k k' f g e ek h =
    let more = h x y (ap (label_or (operand_label x)) e) in
    record { same = more.same; steps = let s = more.steps in omega arith }
alike_on (Ok x) (Err kind) k k' f g e ek h = absurd (subst IsOkay e tt)
alike_on (Err kind) (Ok y) k k' f g e ek h = absurd (subst IsOkay (sym e) tt)
alike_on (Err kind) (Err other) k k' f g e ek h = record { same = e; steps = ek }

alike_and : (a b : Evaluation) (f g : Operand → Evaluation) → Alike a b →
    ((x y : Operand) → operand_label x ≡ operand_label y → Alike (f x) (g y)) →
    Alike (and_operand a f) (and_operand b g)
unfolding and_operand
alike_and a b f g e h = alike_on a.outcome b.outcome a.steps b.steps f g e.same e.steps h

alike_gives : (f : Label → Computed) (x y : Operand) → operand_label x ≡ operand_label y →
    Alike (gives (f (operand_label x))) (gives (f (operand_label y)))
alike_gives f x y e = subst (λ l. Alike (gives (f (operand_label x))) (gives (f l))) e (alike_self _)

alike_unless : (o : Option Bool) (a b : Evaluation) → Alike a b → Alike (unless_settled o a) (unless_settled o b)
alike_unless None a b h = h
alike_unless (Some t) a b h = alike_self _

-- what follows a left operand of this label
abbrev right_of : Infix → (literal : ℕ) → Evaluation → Label → Evaluation
right_of op literal b l = unless_settled (settled op (truth_of l))
    (and_operand b (λ y. between op literal l (operand_label y)))

alike_right : (op : Infix) (literal : ℕ) (a b : Evaluation) (x y : Operand) → Alike a b →
    operand_label x ≡ operand_label y →
    Alike (right_of op literal a (operand_label x)) (right_of op literal b (operand_label y))
alike_right op literal a b x y h e =
    subst (λ l. Alike (right_of op literal a (operand_label x)) (right_of op literal b l)) e
    (alike_unless _ _ _ (alike_and a b _ _ h (λ u w same. subst
    (λ l. Alike (between op literal (operand_label x) (operand_label u)) (between op literal (operand_label x) l)) same
    (alike_self _))))

abbrev IsNot : Bool → Type 0
IsNot true = ⊥
IsNot false = Unit {0}

pub not_true : {A : Type 0} → false ≡ true → A
not_true e = absurd (subst IsNot e tt)

pub both_true : (a b : Bool) → (a && b) ≡ true → (a ≡ true) × (b ≡ true)
both_true true b e = (refl, e)
both_true false b e = not_true e

own_name : (levels levels' : Levels) (own level place : ℕ) (v v' : Value) → value_at levels 0 own ≡ Some v →
    value_at levels' 0 own ≡ Some v' → label_of v ≡ label_of v' → is_own own level place ≡ true →
    Alike (with_steps 1 (leads_to (present (value_at levels level place))))
    (with_steps 1 (leads_to (present (value_at levels' level place))))
own_name levels levels' own zero place v v' h h' e is =
    let same : place ≡ own = grind (arith, is) in
    rw (same, h, h') (record { same = ap Ok e; steps = refl })
own_name levels levels' own (suc level) place v v' h h' e is = not_true is

-- each name leads to the value at that place of the innermost frame, so only its label matters
pub over_own : (levels levels' : Levels) (own : ℕ) (v v' : Value) → value_at levels 0 own ≡ Some v →
    value_at levels' 0 own ≡ Some v' → label_of v ≡ label_of v' → (e : Term) → is_over_own own e ≡ true →
    Alike (evaluation e levels) (evaluation e levels')
unfolding evaluation
over_own levels levels' own v v' h h' same (Number type value) is = alike_self _
over_own levels levels' own v v' h h' same (Text bytes) is = not_true is
over_own levels levels' own v v' h h' same (Name level place) is =
    own_name levels levels' own level place v v' h h' same is
over_own levels levels' own v v' h h' same (Bracket e) is =
    alike_more 1 (over_own levels levels' own v v' h h' same e is)
over_own levels levels' own v v' h h' same (Before op e) is =
    alike_more 1 (alike_and _ _ _ _ (over_own levels levels' own v v' h h' same e is)
    (alike_gives (prefixed op)))
over_own levels levels' own v v' h h' same (Between op a b) is =
    let both = both_true (is_over_own own a) (is_over_own own b) is in
    let left = over_own levels levels' own v v' h h' same a both.0 in
    let right = over_own levels levels' own v v' h h' same b both.1 in
    alike_more 1
    (alike_and _ _ _ _ left (λ x y e. alike_right op (literal_length a + literal_length b) _ _ x y right e))
over_own levels levels' own v v' h h' same (Choice common c x y) is = not_true is
over_own levels levels' own v v' h h' same (Index e i) is = not_true is
over_own levels levels' own v v' h h' same (Select e place) is = not_true is
over_own levels levels' own v v' h h' same (AttributeOf attribute e) is = not_true is
over_own levels levels' own v v' h h' same (ToInteger type e) is =
    alike_more 1 (alike_and _ _ _ _ (over_own levels levels' own v v' h h' same e is)
    (alike_gives (to_integer type)))
over_own levels levels' own v v' h h' same (ToOffset type unit e) is =
    alike_more 1 (alike_and _ _ _ _ (over_own levels levels' own v v' h h' same e is)
    (alike_gives (to_offset type unit)))
over_own levels levels' own v v' h h' same (InUnit unit e) is =
    alike_more 1 (alike_and _ _ _ _ (over_own levels levels' own v v' h h' same e is)
    (alike_gives (in_unit unit)))

-- a constraint that fails, by what its evaluation comes to
abbrev pub failed_at : ℕ → Computed → Result (Unit {0}) FaultAt
failed_at place (Ok x) = satisfied place (truth_of x)
failed_at place (Err kind) = Err (kind, place)

pub told_same : (place : ℕ) (o : Result Operand MapFaultKind) →
    told_at place (λ x. satisfied place (truth_of x)) o ≡ failed_at place (told o)
told_same place (Ok x) = refl
told_same place (Err kind) = refl

abbrev kind_of : MapFaultKind → Result (Unit {0}) FaultAt → MapFaultKind
kind_of d (Ok u) = d
kind_of d (Err f) = f.0

abbrev IsFine : Result (Unit {0}) FaultAt → Type 0
IsFine (Ok u) = Unit {0}
IsFine (Err f) = ⊥

truth_elsewhere : (p q : ℕ) (t : Result Bool MapFaultKind) → satisfied p t ≡ Err (fault.Constraint, p) →
    satisfied q t ≡ Err (fault.Constraint, q)
truth_elsewhere p q (Ok false) e = refl
truth_elsewhere p q (Ok true) e = absurd (subst IsFine e tt)
truth_elsewhere p q (Err kind) e = ap (λ k. Err (k, q)) (ap (kind_of kind) e)

elsewhere : (p q : ℕ) (c : Computed) → failed_at p c ≡ Err (fault.Constraint, p) →
    failed_at q c ≡ Err (fault.Constraint, q)
elsewhere p q (Err kind) e = ap (λ k. Err (k, q)) (ap (kind_of kind) e)
elsewhere p q (Ok x) e = truth_elsewhere p q (truth_of x) e

-- a constraint that fails in one place fails in another, in as many steps
pub fails_there : (e : Term) (levels levels' : Levels) (p q : ℕ) → Alike (evaluation e levels) (evaluation e levels') →
    constraint (Some e) levels p ≡ Err (fault.Constraint, p) →
    constraint (Some e) levels' q ≡ Err (fault.Constraint, q)
unfolding constraint
fails_there e levels levels' p q alike h =
    told_same q (evaluation e levels').outcome
    ∙ elsewhere p q (told (evaluation e levels').outcome)
    (ap (failed_at p) (sym alike.same) ∙ sym (told_same p (evaluation e levels).outcome) ∙ h)
