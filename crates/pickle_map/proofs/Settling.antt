-- Clauses, as their expressions end.
use Rattle.std.proofs.Common.{◌≡◌, ℕ, ◌+◌, ◌<◌, Bool, true, false, ℤ, pos, negsuc, Some, None, Result, Ok, Err, if◌then◌else◌, refl, sym, ap, ◌∙◌}
use Rattle.pickle_map.specs.declared.mapper.stop.Stop.{Stop}
use Rattle.pickle_map.specs.declared.mapper.stop.Stop.TheVariants as stop
use Rattle.pickle_evaluation.specs.declared.content.Content.{Content}
use Rattle.pickle_meaning.specs.declared.faults.MapFaultKind.{MapFaultKind}
use Rattle.pickle_meaning.specs.declared.faults.MapFaultKind.TheVariants as fault
use Rattle.pickle_meaning.specs.Arithmetic.{signed_type}
use Rattle.pickle_evaluation.specs.Comes.{ComesTo, TruthSeen}
use Rattle.pickle_meaning.specs.Values.{Label, IntegerLabel}
use Rattle.pickle_meaning.specs.Clauses.{FaultAt, told_at, kind_at, satisfied, not_negative}
use Rattle.pickle_evaluation.specs.Contents.{IsHeld}
use Rattle.pickle_meaning.specs.Evaluation.{Operand, operand_label, truth_of, Evaluation}
use Rattle.pickle_map.specs.Settles.{Ends, Settles, Sees, natural}

pub is_natural : {A : Type 0} (s : ℕ) (f : ℕ → A) (z : ℤ) (n : ℕ) → natural z ≡ Some n → not_negative s f z ≡ Ok (f n)
is_natural s f (pos m) n e = let k : m ≡ n = cc in rw k refl
is_natural s f (negsuc m) n e = cc

pub is_negative : {A : Type 0} (s : ℕ) (f : ℕ → A) (z : ℤ) → natural z ≡ None →
    not_negative s f z ≡ Err (fault.Bounds, s)
is_negative s f (pos m) e = cc
is_negative s f (negsuc m) e = refl

satisfied_by : (place : ℕ) (t : Result Bool MapFaultKind) (holds : Bool) → kind_at place t ≡ Ok holds →
    satisfied place t ≡ satisfied place (Ok holds)
satisfied_by place (Ok b) holds e = let k : b ≡ holds = cc in rw k refl
satisfied_by place (Err kind) holds e = cc

unsatisfied_by : (place : ℕ) (t : Result Bool MapFaultKind) (f : FaultAt) → kind_at place t ≡ Err f →
    satisfied place t ≡ Err f
unsatisfied_by place (Ok b) f e = cc
unsatisfied_by place (Err kind) f e = let k : (kind, place) ≡ f = cc in ap Err k

told_truth : (place : ℕ) (o : Result Operand MapFaultKind) (holds : Bool) →
    told_at place (λ x. kind_at place (truth_of x)) o ≡ Ok holds →
    told_at place (λ x. satisfied place (truth_of x)) o ≡ satisfied place (Ok holds)
told_truth place (Ok x) holds e = satisfied_by place (truth_of (operand_label x)) holds e
told_truth place (Err kind) holds e = cc

told_fault : (place : ℕ) (o : Result Operand MapFaultKind) (f : FaultAt) →
    told_at place (λ x. kind_at place (truth_of x)) o ≡ Err f →
    told_at place (λ x. satisfied place (truth_of x)) o ≡ Err f
told_fault place (Ok x) f e = unsatisfied_by place (truth_of (operand_label x)) f e
told_fault place (Err kind) f e = let k : (kind, place) ≡ f = cc in ap Err k

truth_is : (place : ℕ) (holds : Bool) →
    kind_at place (truth_of (IntegerLabel (if holds then pos 1 else pos 0) (signed_type 32))) ≡ Ok holds
truth_is place true = refl
truth_is place false = refl

module _ (limit before after place : ℕ) where
  -- a constraint, once the truth of its expression is known
  pub truth_satisfies : (holds : Bool) (r : Result (Unit {0}) Stop) (a : Evaluation) →
      Settles limit before after (Ok holds) (told_at place (λ x. kind_at place (truth_of x)) a.outcome) a.steps →
      Ends r (satisfied place (Ok holds)) →
      Settles limit before after r (told_at place (λ x. satisfied place (truth_of x)) a.outcome) a.steps
  truth_satisfies holds (Ok u) a h g = (told_truth place a.outcome holds h.0 ∙ g, h.1)
  truth_satisfies holds (Err (stop.Fault kind at)) a h g = (told_truth place a.outcome holds h.0 ∙ g, h.1)
  truth_satisfies holds (Err stop.Limit) a h g = absurd g
  truth_satisfies holds (Err stop.Device) a h g = g
  truth_satisfies holds (Err stop.Memory) a h g = g

  pub truth_stops : (s : Stop) (a : Evaluation) →
      Settles {A = Bool} limit before after (Err s)
      (told_at place (λ x. kind_at place (truth_of x)) a.outcome) a.steps →
      Settles {A = Unit {0}} limit before after (Err s)
      (told_at place (λ x. satisfied place (truth_of x)) a.outcome) a.steps
  truth_stops (stop.Fault kind at) a h = (told_fault place a.outcome (kind, at) h.0, h.1)
  truth_stops stop.Limit a h = h
  truth_stops stop.Device a h = h
  truth_stops stop.Memory a h = h

  -- an expression whose truth is known with its steps: they are taken, or some are missing
  pub known_truth : (holds : Bool) (n : ℕ) (a : Evaluation) →
      ComesTo a (IntegerLabel (if holds then pos 1 else pos 0) (signed_type 32)) n → after ≡ before + n →
      Settles limit before after (Ok holds) (told_at place (λ x. kind_at place (truth_of x)) a.outcome) a.steps
  known_truth holds n a h e = rw (h.1, h.2, h.3) (truth_is place holds, e)

  pub known_stops : (l : Label) (n : ℕ) (a : Evaluation) → ComesTo a l n → after ≡ limit → limit < before + n →
      Settles {A = Bool} limit before after (Err stop.Limit)
      (told_at place (λ x. kind_at place (truth_of x)) a.outcome) a.steps
  known_stops l n a h e lt = rw h.3 (e, lt)

  -- the truth of a value, or why there is none
  pub seen_truth : (t : Result Bool MapFaultKind) (a : Evaluation) → TruthSeen limit before after (Ok t) a →
      (told_at place (λ x. kind_at place (truth_of x)) a.outcome ≡ kind_at place t) × (after ≡ before + a.steps)
  seen_truth t a h = rw h.1 (ap (kind_at place) h.2, h.3)

module _ {A : Type 0} (limit before after place : ℕ) where
  pub seen_stops : (s : Stop) (a : Evaluation) (f : Label → Result A FaultAt) →
      Sees limit before after place (Err s) a →
      Settles {A = A} limit before after (Err s) (told_at place f a.outcome) a.steps
  seen_stops (stop.Fault kind at) a f h = rw h.0 (ap (λ p. Err (kind, p)) (sym h.1), h.2)
  seen_stops stop.Limit a f h = h
  seen_stops stop.Device a f h = h
  seen_stops stop.Memory a f h = h

  pub seen_ends : (c : Content) (r : Result A Stop) (a : Evaluation) (f : Label → Result A FaultAt) →
      Sees limit before after place (Ok c) a → ((x : Label) → IsHeld c x → Ends r (f x)) →
      Settles {A = A} limit before after r (told_at place f a.outcome) a.steps
  seen_ends c (Ok y) a f h g = rw h.1 (g (operand_label h.0) h.2, h.3)
  seen_ends c (Err (stop.Fault kind at)) a f h g = rw h.1 (g (operand_label h.0) h.2, h.3)
  seen_ends c (Err stop.Limit) a f h g = absurd (g (operand_label h.0) h.2)
  seen_ends c (Err stop.Device) a f h g = g (operand_label h.0) h.2
  seen_ends c (Err stop.Memory) a f h g = g (operand_label h.0) h.2
