-- The outcome that a derivation yields is that of the evaluation.
use Rattle.std.proofs.Common.{◌≡◌, ℕ, zero, suc, ◌+◌, ◌<◌, Bool, true, false, Some, Result, Ok, Err, ℤ, pos, negsuc, refl, ap, ◌∙◌, arith}
use Rattle.std.proofs.lemmas.Bool.{lt-ltb, le-ltb, eq-eqb, ne_eqb}
use Rattle.std.proofs.lemmas.Option.{none-some}
use Rattle.pickle_types.specs.declared.integer.IntegerType.{IntegerType}
use Rattle.pickle_types.specs.Types.{Term}
use Rattle.pickle_meaning.specs.declared.faults.MapFaultKind.{MapFaultKind}
use Rattle.pickle_meaning.specs.declared.faults.MapFaultKind.TheVariants as fault
use Rattle.pickle_meaning.specs.Values.{Label, IntegerLabel, ArrayLabel, Value, Mapped, Members, NoMembers, MemberThen, AbsentThen, member_count, member_at, Levels}
use Rattle.pickle_meaning.specs.Arithmetic.{Computed, truth, combined}
use Rattle.pickle_meaning.specs.Evaluation.{Operand, AtPath, operand_label, chosen, element, leads_to, Evaluation, gives, with_steps, and_operand, evaluation}
use Rattle.type_soundness.specs.Derivations.{computed, text_steps, IsOutside, Applies, First, side, Yields}
use Rattle.type_soundness.specs.Derivations as rule

-- an evaluation of this outcome, in so many steps
abbrev pub Comes : Evaluation → Result Operand MapFaultKind → ℕ → Type 0
Comes a r k = (a.outcome ≡ r) × (a.steps ≡ k)

recount : {a : Evaluation} {r : Result Operand MapFaultKind} {k j : ℕ} → k ≡ j → Comes a r k → Comes a r j
recount e h = (h.0, h.1 ∙ e)

gives_computed : (r : Computed) → Comes (gives r) (computed r) 0
gives_computed (Ok label) = (refl, refl)
gives_computed (Err kind) = (refl, refl)

then_ok : {x : Operand} {r : Result Operand MapFaultKind} {k j : ℕ} (a : Evaluation) (f : Operand → Evaluation) →
    Comes a (Ok x) k → Comes (f x) r j → Comes (and_operand a f) r (k + j)
unfolding and_operand
then_ok a f h g = rw h.0 (g.0, omega (arith, h.1, g.1))

then_err : {kind : MapFaultKind} {k : ℕ} (a : Evaluation) (f : Operand → Evaluation) → Comes a (Err kind) k →
    Comes (and_operand a f) (Err kind) k
unfolding and_operand
then_err a f h = rw h.0 (refl, h.1)

stepped : {a : Evaluation} {r : Result Operand MapFaultKind} {k : ℕ} → Comes a r k → Comes (with_steps 1 a) r (1 + k)
stepped h = (h.0, ap (λ n. 1 + n) h.1)

-- where the remainder takes no steps
then_last : {x : Operand} {r : Result Operand MapFaultKind} {k : ℕ} (a : Evaluation) (f : Operand → Evaluation) →
    Comes a (Ok x) k → Comes (f x) r 0 → Comes (and_operand a f) r k
then_last {k} a f h g = recount (omega arith) (then_ok {k = k} {j = 0} a f h g)

outside_exact : (s end : ℕ) (ms : Members) (n : ℤ) (type : IntegerType) → IsOutside ms n →
    Comes (leads_to (element (AtPath (Mapped ArrayLabel s end ms)) (IntegerLabel n type))) (Err fault.Index) 0
outside_exact s end ms (pos i) type h = let e = le-ltb i (member_count ms) h in rw e (refl, refl)
outside_exact s end ms (negsuc i) type h = (refl, refl)

with_exact : (n : ℕ) (r : Computed) → Comes (with_steps n (gives r)) (computed r) n
with_exact n r = let g = gives_computed r in (g.0, omega (arith, g.1))

at_inside : (ms : Members) (n : ℕ) (v : Value) → member_at ms n ≡ Some v → n < member_count ms
at_inside NoMembers n v e = absurd (none-some v e)
at_inside (MemberThen w ms) zero v e = omega arith
at_inside (MemberThen w ms) (suc n) v e = let h = at_inside ms n v e in omega (arith, h)
at_inside (AbsentThen ms) zero v e = absurd (none-some v e)
at_inside (AbsentThen ms) (suc n) v e = let h = at_inside ms n v e in omega (arith, h)

module _ (levels : Levels) where
  first_exact : {t e : Term} {kind : MapFaultKind} {k : ℕ} → First t e → Comes (evaluation e levels) (Err kind) k →
      Comes (evaluation t levels) (Err kind) (1 + k)
  unfolding evaluation
  first_exact rule.bracket h = stepped h
  first_exact (rule.applied rule.prefix) h = stepped (then_err _ _ h)
  first_exact (rule.applied rule.as_integer) h = stepped (then_err _ _ h)
  first_exact (rule.applied rule.as_offset) h = stepped (then_err _ _ h)
  first_exact (rule.applied rule.as_unit) h = stepped (then_err _ _ h)
  first_exact rule.between h = stepped (then_err _ _ h)
  first_exact rule.choice h = stepped (then_err _ _ h)
  first_exact rule.index h = stepped (then_err _ _ h)
  first_exact rule.select h = stepped (then_err _ _ h)
  first_exact rule.attribute h = stepped (then_err _ _ h)

  applied_exact : {t e : Term} {f : Label → Computed} {x : Operand} {k : ℕ} → Applies t e f →
      Comes (evaluation e levels) (Ok x) k → Comes (evaluation t levels) (computed (f (operand_label x))) (1 + k)
  unfolding evaluation
  applied_exact rule.prefix h = stepped (then_last _ _ h (gives_computed _))
  applied_exact rule.as_integer h = stepped (then_last _ _ h (gives_computed _))
  applied_exact rule.as_offset h = stepped (then_last _ _ h (gives_computed _))
  applied_exact rule.as_unit h = stepped (then_last _ _ h (gives_computed _))

  side_exact : (u : Bool) (x y : Term) {r : Result Operand MapFaultKind} {k : ℕ} →
      Comes (evaluation (side u x y) levels) r k → Comes (chosen (Ok u) (evaluation x levels) (evaluation y levels)) r k
  side_exact true x y h = h
  side_exact false x y h = h

  pub exact : {e : Term} {r : Result Operand MapFaultKind} {k : ℕ} → Yields levels e r k →
      Comes (evaluation e levels) r k
  unfolding evaluation
  exact rule.number = (refl, refl)
  exact rule.text = (refl, refl)
  exact (rule.name h) = rw h (refl, refl)
  exact (rule.absent_name h) = rw h (refl, refl)
  exact (rule.bracket h) = stepped (exact h)
  exact (rule.first_fault f h) = first_exact f (exact h)
  exact (rule.applied a h p) = applied_exact a (exact h)
  exact (rule.left_settles {u} h s) = stepped (then_last _ _ (exact h) (rw s (gives_computed (truth u))))
  exact (rule.right_fault {k} {j} h s g) =
      recount (omega arith) (stepped (then_ok {k = k} {j = j} _ _ (exact h) (rw s (then_err _ _ (exact g)))))
  exact (rule.both_sides {op} {a} {b} {x} {y} {k} {j} h s g p) =
      let last = with_exact (text_steps a b (operand_label x) (operand_label y))
      (combined op (operand_label x) (operand_label y)) in
      recount (omega arith) (stepped (then_ok {k = k} {j = j + text_steps a b (operand_label x) (operand_label y)} _ _
      (exact h) (rw s (then_ok {k = j} {j = text_steps a b (operand_label x) (operand_label y)} _ _ (exact g) last))))
  exact (rule.side_fault {x} {y} {u} {k} {j} h t g) = recount (omega arith)
      (stepped (then_ok {k = k} {j = j} _ _ (exact h) (rw t (then_err _ _ (side_exact u x y (exact g))))))
  exact (rule.choice {x} {y} {u} {k} {j} h t g p) = recount (omega arith) (stepped
      (then_ok {k = k} {j = j} _ _ (exact h) (rw t (then_last _ _ (side_exact u x y (exact g)) (gives_computed _)))))
  exact (rule.index_fault {k} {j} h g) =
      recount (omega arith) (stepped (then_ok {k = k} {j = j} _ _ (exact h) (then_err _ _ (exact g))))
  exact (rule.element {n} {members} {v} {k} {j} h g e m) =
      let lt = lt-ltb n (member_count members) (at_inside members n v m) in
      recount (omega arith)
      (stepped (then_ok {k = k} {j = j} _ _ (exact h) (then_last _ _ (exact g) (rw e (rw lt (rw m (refl, refl)))))))
  exact (rule.outside {s} {end} {members} {y} {n} {type} {k} {j} h g e o) =
      recount (omega arith) (stepped
      (then_ok {k = k} {j = j} _ _ (exact h) (then_last _ _ (exact g) (rw e (outside_exact s end members n type o)))))
  exact (rule.field h m) = stepped (then_last _ _ (exact h) (rw m (refl, refl)))
  exact (rule.absent_field h p m) = stepped (then_last _ _ (exact h) (rw m (refl, refl)))
  exact (rule.alternative {place} h m) =
      stepped (then_last _ _ (exact h) (let e = eq-eqb place place refl in rw e (rw m (refl, refl))))
  exact (rule.other_alternative {index} {place} h n) =
      stepped (then_last _ _ (exact h) (let e = ne_eqb index place n in rw e (refl, refl)))
  exact (rule.count h) = stepped (then_last _ _ (exact h) (refl, refl))
  exact (rule.size h) = stepped (then_last _ _ (exact h) (refl, refl))
