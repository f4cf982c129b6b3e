-- What is computed of each kind of expression over one number.
use Rattle.std.proofs.Common.{◌≡◌, ℕ, zero, suc, ◌+◌, ◌-◌, ◌^◌, min, Bool, true, false, Option, Some, None, Result, Ok, Err, pos, refl, sym, ap, ◌∙◌, arith}
use Rattle.std.specs.Prelude.{◌&&◌, if◌then◌else◌}
use Rattle.std.proofs.lemmas.Option.{none-some, same_Some}
use Rattle.pickle_tree.specs.declared.tree.Infix.{Infix}
use Rattle.pickle_types.specs.declared.integer.IntegerType.{IntegerType}
use Rattle.pickle_types.specs.Types.{Term, Number, Text, Name, Bracket, Between}
use Rattle.pickle_meaning.specs.declared.faults.MapFaultKind.{MapFaultKind}
use Rattle.pickle_meaning.specs.Arithmetic.{Computed, combined, truth}
use Rattle.pickle_meaning.specs.Evaluation.{Operand, operand_label, Evaluation, evaluation, gives, and_operand, on_outcome, with_steps, unless_settled, settled, truth_of, between, literal_length, is_text}
use Rattle.pickle_meaning.specs.Values.{Label, Value, label_of, Levels, value_at}
use Rattle.value_store.specs.declared.scalar.Scalar.{Scalar}
use Rattle.value_store.specs.declared.scalar.Scalar.TheVariants as scalar
use Rattle.value_store.specs.Scalars.{computed_of, scalar_label}
use Rattle.first_numbers.specs.declared.judge.Judged.{Judged}
use Rattle.first_numbers.specs.Judged.{IsJudged, JoinsBoth, SettlesBy, bound, left_alone, told, truth_if}
use Rattle.first_numbers.specs.Layouts.{is_over_own, is_own}
use Rattle.first_numbers.proofs.Alike.{not_true}

abbrev pub most : ℕ
most = 2 ^ 64 - 1

-- the steps up to there
abbrev pub judged_so : Result Scalar MapFaultKind → ℕ → Judged
judged_so value steps = record { value = value; steps = steps }

gives_free : (c : Computed) → (gives c).steps ≡ 0
gives_free (Ok x) = refl
gives_free (Err kind) = refl

gives_told : (c : Computed) → told (gives c).outcome ≡ c
gives_told (Ok x) = refl
gives_told (Err kind) = refl

-- an operand, and what is computed of its label
and_told : (o : Result Operand MapFaultKind) (k : ℕ) (f : Label → Computed) →
    told (on_outcome o k (λ x. gives (f (operand_label x)))).outcome ≡ bound (told o) f
and_told (Ok x) k f = gives_told (f (operand_label x))
and_told (Err kind) k f = refl

and_steps : (o : Result Operand MapFaultKind) (k : ℕ) (f : Label → Computed) →
    (on_outcome o k (λ x. gives (f (operand_label x)))).steps ≡ k
and_steps (Ok x) k f = let z = gives_free (f (operand_label x)) in omega (arith, z)
and_steps (Err kind) k f = refl

pub judged_number : (type : IntegerType) (value : ℕ) (levels : Levels) →
    IsJudged (judged_so (Ok (scalar.Integer (pos value) type)) 1) (evaluation (Number type value) levels)
unfolding evaluation
judged_number type value levels = record { value = refl; steps = refl }

pub judged_name : (x : Scalar) (own level place : ℕ) (levels : Levels) (v : Value) → is_own own level place ≡ true →
    value_at levels 0 own ≡ Some v → label_of v ≡ scalar_label x →
    IsJudged (judged_so (Ok x) 1) (evaluation (Name level place) levels)
unfolding evaluation
judged_name x own zero place levels v is here label =
    let same : place ≡ own = grind (arith, is) in
    rw (same, here) (record { value = ap Ok (sym label); steps = refl })
judged_name x own (suc level) place levels v is here label = not_true is

pub judged_bracket : (inner : Judged) (e : Term) (levels : Levels) (steps : ℕ) → IsJudged inner (evaluation e levels) →
    steps ≡ min (1 + inner.steps) most → IsJudged (judged_so inner.value steps) (evaluation (Bracket e) levels)
unfolding evaluation
judged_bracket inner e levels steps h is =
    let k = h.steps in record { value = h.value; steps = omega (arith, is, k) }

-- an operand, and what is computed of it
pub judged_applied : (inner : Judged) (a : Evaluation) (f : Label → Computed) (value : Result Scalar MapFaultKind)
    (steps : ℕ) → IsJudged inner a → computed_of value ≡ bound (computed_of inner.value) f →
    steps ≡ min (1 + inner.steps) most →
    IsJudged (judged_so value steps) (with_steps 1 (and_operand a (λ x. gives (f (operand_label x)))))
unfolding and_operand
judged_applied inner a f value steps h is more =
    let k = h.steps in
    let same = and_steps a.outcome a.steps f in
    record {
      value = is ∙ ap (λ (c : Computed). bound c f) h.value ∙ sym (and_told a.outcome a.steps f);
      steps = omega (arith, k, same, more);
    }

-- an operator whose left side decides
abbrev right_after : Infix → (literal : ℕ) → Evaluation → Label → Evaluation
right_after op literal b l =
    unless_settled (settled op (truth_of l)) (and_operand b (λ y. between op literal l (operand_label y)))

left_alone_told : (op : Infix) (literal : ℕ) (b : Evaluation) (c : Computed) (l : Label) →
    truth_if (settled op (truth_of l)) ≡ Some c →
    (told (right_after op literal b l).outcome ≡ c) × ((right_after op literal b l).steps ≡ 0)
left_alone_told op literal b c l e = by_settled (settled op (truth_of l)) e
  where
    by_settled : (o : Option Bool) → truth_if o ≡ Some c →
        (told (unless_settled o (and_operand b (λ y. between op literal l (operand_label y)))).outcome ≡ c)
        × ((unless_settled o (and_operand b (λ y. between op literal l (operand_label y)))).steps ≡ 0)
    by_settled None e = absurd (none-some c e)
    by_settled (Some t) e = (same_Some (truth t) c e, refl)

left_decides : (op : Infix) (literal : ℕ) (o : Result Operand MapFaultKind) (k : ℕ) (b : Evaluation) (c : Computed) →
    left_alone op (told o) ≡ Some c →
    (told (on_outcome o k (λ x. right_after op literal b (operand_label x))).outcome ≡ c)
    × ((on_outcome o k (λ x. right_after op literal b (operand_label x))).steps ≡ k)
left_decides op literal (Ok x) k b c e =
    let h = left_alone_told op literal b c (operand_label x) e in
    let z = h.1 in
    (h.0, omega (arith, z))
left_decides op literal (Err kind) k b c e = (same_Some (Err kind) c e, refl)

pub judged_left : (op : Infix) (left : Judged) (a b : Term) (levels : Levels) (value : Result Scalar MapFaultKind)
    (steps : ℕ) → IsJudged left (evaluation a levels) → SettlesBy op left.value (Some value) →
    steps ≡ min (1 + left.steps) most → IsJudged (judged_so value steps) (evaluation (Between op a b) levels)
unfolding evaluation and_operand
judged_left op left a b levels value steps h is more =
    let k = h.steps in
    let decided : left_alone op (told (evaluation a levels).outcome) ≡ Some (computed_of value) =
    ap (left_alone op) (sym h.value) ∙ sym is in
    let d = left_decides op (literal_length a + literal_length b) (evaluation a levels).outcome
    (evaluation a levels).steps (evaluation b levels) (computed_of value) decided in
    let same = d.1 in
    record { value = sym d.0; steps = omega (arith, k, same, more) }

-- no text is over one number
no_literal : (own : ℕ) (e : Term) → is_over_own own e ≡ true → literal_length e ≡ 0
no_literal own (Text bytes) is = not_true is
no_literal own e is = refl

none_steps : (t : Bool) (literal : ℕ) → literal ≡ 0 → (if t then literal else 0) ≡ 0
none_steps true literal e = e
none_steps false literal e = refl

both_told : (op : Infix) (literal : ℕ) (l : Label) (o : Result Operand MapFaultKind) (k : ℕ) → literal ≡ 0 →
    (told (on_outcome o k (λ y. between op literal l (operand_label y))).outcome ≡ bound (told o) (combined op l))
    × ((on_outcome o k (λ y. between op literal l (operand_label y))).steps ≡ k)
both_told op literal l (Ok y) k none =
    let c = combined op l (operand_label y) in
    let z = gives_free c in
    let s = none_steps (is_text l && is_text (operand_label y)) literal none in
    (gives_told c, omega (arith, z, s))
both_told op literal l (Err kind) k none = (refl, refl)

right_told : (op : Infix) (literal : ℕ) (l : Label) (b : Evaluation) → literal ≡ 0 →
    truth_if (settled op (truth_of l)) ≡ None →
    (told (right_after op literal b l).outcome ≡ bound (told b.outcome) (combined op l))
    × ((right_after op literal b l).steps ≡ b.steps)
unfolding and_operand
right_told op literal l b none e = by_settled (settled op (truth_of l)) e
  where
    by_settled : (o : Option Bool) → truth_if o ≡ None →
        (told (unless_settled o (on_outcome b.outcome b.steps (λ y. between op literal l (operand_label y)))).outcome
        ≡ bound (told b.outcome) (combined op l))
        × ((unless_settled o (on_outcome b.outcome b.steps (λ y. between op literal l (operand_label y)))).steps
        ≡ b.steps)
    by_settled None e = both_told op literal l b.outcome b.steps none
    by_settled (Some t) e = absurd (none-some (truth t) (sym e))

sides_told : (op : Infix) (literal : ℕ) (o : Result Operand MapFaultKind) (k : ℕ) (b : Evaluation) → literal ≡ 0 →
    left_alone op (told o) ≡ None →
    (told (on_outcome o k (λ x. right_after op literal b (operand_label x))).outcome
    ≡ bound (told o) (λ x. bound (told b.outcome) (combined op x)))
    × ((on_outcome o k (λ x. right_after op literal b (operand_label x))).steps ≡ k + b.steps)
sides_told op literal (Ok x) k b none e =
    let h = right_told op literal (operand_label x) b none e in
    let s = h.1 in
    (h.0, omega (arith, s))
sides_told op literal (Err kind) k b none e = absurd (none-some (Err kind) (sym e))

pub judged_both : (own : ℕ) (op : Infix) (left right whole : Judged) (a b : Term) (levels : Levels) →
    is_over_own own a ≡ true → is_over_own own b ≡ true → IsJudged left (evaluation a levels) →
    IsJudged right (evaluation b levels) → SettlesBy op left.value None → JoinsBoth op left right whole →
    IsJudged whole (evaluation (Between op a b) levels)
unfolding evaluation and_operand
judged_both own op left right whole a b levels over_a over_b h g is joins =
    let ks = h.steps in
    let js = g.steps in
    let ws = joins.steps in
    let za = no_literal own a over_a in
    let zb = no_literal own b over_b in
    let none : literal_length a + literal_length b ≡ 0 = omega (arith, za, zb) in
    let open_side : left_alone op (told (evaluation a levels).outcome) ≡ None =
    ap (left_alone op) (sym h.value) ∙ sym is in
    let s =
    sides_told op (literal_length a + literal_length b) (evaluation a levels).outcome (evaluation a levels).steps
    (evaluation b levels) none open_side in
    let same = s.1 in
    record {
      value = joins.value
          ∙ ap (λ (c : Computed). bound c (λ x. bound (computed_of right.value) (combined op x))) h.value
          ∙ ap (λ (c : Computed). bound (told (evaluation a levels).outcome) (λ x. bound c (combined op x))) g.value
          ∙ sym s.0;
      steps = omega (arith, ks, js, ws, same);
    }
