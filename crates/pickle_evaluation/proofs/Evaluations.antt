-- Evaluations made of evaluations, as their parts end.
use Rattle.std.proofs.Common.{◌≡◌, ℕ, ◌+◌, ◌≤◌, List, Result, Ok, Err, refl, arith}
use Rattle.pickle_types.specs.declared.node.Node.{Node}
use Rattle.pickle_types.specs.declared.node.Resolved.{Resolved}
use Rattle.pickle_types.specs.declared.node.Resolved.TheVariants as resolved
use Rattle.pickle_types.specs.Table.{term_of}
use Rattle.value_store.specs.declared.scalar.Scalar.{Scalar}
use Rattle.pickle_evaluation.specs.declared.operand.Operand.{Operand as Computing}
use Rattle.pickle_evaluation.specs.declared.operand.Operand.TheVariants as computing
use Rattle.pickle_evaluation.specs.declared.operand.Unvalued.{Unvalued}
use Rattle.pickle_evaluation.specs.declared.operand.Unvalued.TheVariants.{Fault, Limit}
use Rattle.pickle_meaning.specs.declared.faults.MapFaultKind.{MapFaultKind}
use Rattle.pickle_meaning.specs.Arithmetic.{Computed}
use Rattle.pickle_meaning.specs.Evaluation.{Operand, Evaluation, evaluation, gives, with_steps, on_outcome, and_operand}
use Rattle.pickle_meaning.specs.Values.{Levels}
use Rattle.value_store.specs.Scalars.{scalar_label}
use Rattle.pickle_evaluation.specs.Operands.{operand_of, Evaluated}

grows_by : (o : Result Operand MapFaultKind) (k : ℕ) (f : Operand → Evaluation) → k ≤ (on_outcome o k f).steps
grows_by (Ok x) k f = omega arith
grows_by (Err e) k f = omega arith

pub grows : (a : Evaluation) (f : Operand → Evaluation) → a.steps ≤ (and_operand a f).steps
unfolding and_operand
grows a f = grows_by a.outcome a.steps f

-- each expression takes a step
takes_step : (e : Resolved) (levels : Levels) → 1 ≤ (evaluation (term_of e) levels).steps
unfolding evaluation
takes_step (resolved.Number type value) levels = omega arith
takes_step (resolved.Text t) levels = omega arith
takes_step (resolved.Name level place) levels = omega arith
takes_step (resolved.Bracket' p x) levels = omega arith
takes_step (resolved.Prefix' op p x) levels = omega arith
takes_step (resolved.Infix' op p x q y) levels = omega arith
takes_step (resolved.Choice' common p x q y r w) levels = omega arith
takes_step (resolved.Index' p x q y) levels = omega arith
takes_step (resolved.Select' p x place) levels = omega arith
takes_step (resolved.Attribute' attribute p x) levels = omega arith
takes_step (resolved.ToInteger' type p x) levels = omega arith
takes_step (resolved.ToOffset' type unit p x) levels = omega arith
takes_step (resolved.InUnit' unit p x) levels = omega arith

pub no_step : (nodes : List Node) (limit before after : ℕ) (e : Resolved) (levels : Levels) → after ≡ before →
    after ≡ limit → Evaluated nodes limit before after (Err Limit) (evaluation (term_of e) levels)
no_step nodes limit b z e levels same last = let s = takes_step e levels in (last, omega (arith, same, last, s))

module _ (nodes : List Node) (limit : ℕ) where
  -- the first operand has no value, so the whole has none
  pub first_stops : (before after : ℕ) (u : Unvalued) (a : Evaluation) (f : Operand → Evaluation) →
      Evaluated nodes limit before after (Err u) a → Evaluated nodes limit before after (Err u) (and_operand a f)
  unfolding and_operand
  first_stops b a' (Fault kind) a f h = rw h.0 (refl, h.1)
  first_stops b a' Limit a f h = let g = grows a f in (h.0, omega (arith, h.1, g))

  -- the first operand has a value, so the evaluation continues with the next
  pub goes_on : (before between after : ℕ) (x : Computing) (r : Result Computing Unvalued) (a : Evaluation)
      (f : Operand → Evaluation) →
      Evaluated nodes limit before between (Ok x) a → Evaluated nodes limit between after r (f (operand_of nodes x)) →
      Evaluated nodes limit before after r (and_operand a f)
  unfolding and_operand
  goes_on b m a' x (Ok y) a f h g = rw h.0 (g.0, omega (arith, h.1, g.1))
  goes_on b m a' x (Err (Fault kind)) a f h g = rw h.0 (g.0, omega (arith, h.1, g.1))
  goes_on b m a' x (Err Limit) a f h g = rw h.0 (g.0, omega (arith, h.1, g.1))

  -- a step that was left, and one that was not
  pub stepped : (before between after : ℕ) (r : Result Computing Unvalued) (a : Evaluation) → between ≡ before + 1 →
      Evaluated nodes limit between after r a → Evaluated nodes limit before after r (with_steps 1 a)
  stepped b m a' (Ok x) a e h = (h.0, omega (arith, e, h.1))
  stepped b m a' (Err (Fault kind)) a e h = (h.0, omega (arith, e, h.1))
  stepped b m a' (Err Limit) a e h = (h.0, omega (arith, e, h.1))

  pub not_stepped : (before after : ℕ) (a : Evaluation) → after ≡ before → after ≡ limit →
      Evaluated nodes limit before after (Err Limit) (with_steps 1 a)
  not_stepped b a' a e l = (l, omega (arith, e, l))

  -- what was computed in no steps
  pub computes : (before after : ℕ) (s : Scalar) (c : Computed) → after ≡ before →
      ◌≡◌ {A = Computed} (Ok (scalar_label s)) c →
      Evaluated nodes limit before after (Ok (computing.Scalar s)) (gives c)
  computes b a' s c e h = rw (← h) (refl, omega (arith, e))

  pub faults : (before after : ℕ) (kind : MapFaultKind) (c : Computed) → after ≡ before →
      ◌≡◌ {A = Computed} (Err kind) c → Evaluated nodes limit before after (Err (Fault kind)) (gives c)
  faults b a' kind c e h = rw (← h) (refl, omega (arith, e))

  pub comes_to : (before after : ℕ) (x : Computing) (a : Evaluation) → after ≡ before → a.steps ≡ 0 →
      a.outcome ≡ Ok (operand_of nodes x) → Evaluated nodes limit before after (Ok x) a
  comes_to b a' x a e z h = (h, omega (arith, e, z))

  pub comes_not : (before after : ℕ) (kind : MapFaultKind) (a : Evaluation) → after ≡ before → a.steps ≡ 0 →
      a.outcome ≡ Err kind → Evaluated nodes limit before after (Err (Fault kind)) a
  comes_not b a' kind a e z h = (h, omega (arith, e, z))
