-- Evaluations of each kind of expression, as their operands end.
use Rattle.std.proofs.Common.{◌≡◌, ℕ, ◌+◌, List, Option, Some, None, Result, Ok, Err, Bool, true, false, refl, subst, arith}
use Rattle.pickle_types.specs.declared.node.Node.{Node}
use Rattle.value_store.specs.declared.scalar.Scalar.{Scalar}
use Rattle.pickle_evaluation.specs.declared.operand.Operand.{Operand as Computing}
use Rattle.pickle_evaluation.specs.declared.operand.Operand.TheVariants as computing
use Rattle.pickle_evaluation.specs.declared.operand.Unvalued.{Unvalued}
use Rattle.pickle_evaluation.specs.declared.operand.Unvalued.TheVariants.{Fault, Limit}
use Rattle.pickle_meaning.specs.declared.faults.MapFaultKind.{MapFaultKind}
use Rattle.pickle_meaning.specs.declared.faults.MapFaultKind.TheVariants as fault
use Rattle.pickle_meaning.specs.Arithmetic.{Computed, truth}
use Rattle.pickle_evaluation.specs.declared.content.Content.{Content}
use Rattle.pickle_evaluation.specs.declared.content.Content.TheVariants as content
use Rattle.pickle_evaluation.specs.Contents.{IsHeld}
use Rattle.pickle_evaluation.specs.Comes.{Seen}
use Rattle.pickle_meaning.specs.Values.{Value, Label}
use Rattle.pickle_meaning.specs.Evaluation.{Operand, AtPath, Plain, operand_label, Evaluation, gives, with_steps, leads_to, present, unless_settled, chosen, and_operand}
use Rattle.value_store.specs.Scalars.{scalar_label}
use Rattle.pickle_evaluation.specs.Operands.{operand_of, Evaluated}
use Rattle.pickle_evaluation.proofs.Evaluations.{first_stops, goes_on, stepped, computes, faults, comes_to, comes_not}

pub at_limit : (nodes : List Node) (l limit before after : ℕ) (r : Result Computing Unvalued) (a : Evaluation) →
    l ≡ limit → Evaluated nodes l before after r a → Evaluated nodes limit before after r a
at_limit nodes l limit before after r a e h = subst (λ (k : ℕ). Evaluated nodes k before after r a) e h

leads_free : (r : Result Value MapFaultKind) → (leads_to r).steps ≡ 0
leads_free (Ok v) = refl
leads_free (Err k) = refl

pub is_led : (o : Option Value) (v : Value) → o ≡ Some v → (leads_to (present o)).outcome ≡ Ok (AtPath v)
is_led o v e = rw e refl

pub is_not_led : (o : Option Value) → o ≡ None → (leads_to (present o)).outcome ≡ Err fault.Absent
is_not_led o e = rw e refl

module _ (nodes : List Node) (limit : ℕ) where
  pub leads : (at : ℕ) (x : Computing) (r : Result Value MapFaultKind) →
      (leads_to r).outcome ≡ Ok (operand_of nodes x) → Evaluated nodes limit at at (Ok x) (leads_to r)
  leads at x r h = comes_to nodes limit at at x (leads_to r) refl (leads_free r) h

  pub leads_not : (at : ℕ) (kind : MapFaultKind) (r : Result Value MapFaultKind) → (leads_to r).outcome ≡ Err kind →
      Evaluated nodes limit at at (Err (Fault kind)) (leads_to r)
  leads_not at kind r h = comes_not nodes limit at at kind (leads_to r) refl (leads_free r) h

  -- the operand has no value
  pub arm_stops : (l before mid after : ℕ) (u : Unvalued) (a : Evaluation) (f : Operand → Evaluation) →
      l ≡ limit → mid ≡ before + 1 →
      Evaluated nodes l mid after (Err u) a →
      Evaluated nodes limit before after (Err u) (with_steps 1 (and_operand a f))
  arm_stops l b m z u a f el em h = stepped nodes limit b m z (Err u) (and_operand a f) em
      (first_stops nodes limit m z u a f (at_limit nodes l limit m z (Err u) a el h))

  -- the operand has a value, and the remainder takes no steps
  pub arm_goes_on : (l before mid after : ℕ) (x : Computing) (r : Result Computing Unvalued) (a : Evaluation)
      (f : Operand → Evaluation) → l ≡ limit → mid ≡ before + 1 →
      Evaluated nodes l mid after (Ok x) a → Evaluated nodes limit after after r (f (operand_of nodes x)) →
      Evaluated nodes limit before after r (with_steps 1 (and_operand a f))
  arm_goes_on l b m z x r a f el em h g = stepped nodes limit b m z r (and_operand a f) em
      (goes_on nodes limit m z z x r a f (at_limit nodes l limit m z (Ok x) a el h) g)

  pub arm_computes : (l before mid after : ℕ) (x : Computing) (s : Scalar) (a : Evaluation) (c : Operand → Computed) →
      l ≡ limit → mid ≡ before + 1 →
      Evaluated nodes l mid after (Ok x) a → ◌≡◌ {A = Computed} (Ok (scalar_label s)) (c (operand_of nodes x)) →
      Evaluated nodes limit before after (Ok (computing.Scalar s)) (with_steps 1 (and_operand a (λ y. gives (c y))))
  arm_computes l b m z x s a c el em h g = arm_goes_on l b m z x (Ok (computing.Scalar s)) a (λ y. gives (c y)) el em h
      (computes nodes limit z z s (c (operand_of nodes x)) refl g)

  pub arm_faults : (l before mid after : ℕ) (x : Computing) (kind : MapFaultKind) (a : Evaluation)
      (c : Operand → Computed) → l ≡ limit → mid ≡ before + 1 →
      Evaluated nodes l mid after (Ok x) a → ◌≡◌ {A = Computed} (Err kind) (c (operand_of nodes x)) →
      Evaluated nodes limit before after (Err (Fault kind)) (with_steps 1 (and_operand a (λ y. gives (c y))))
  arm_faults l b m z x kind a c el em h g = arm_goes_on l b m z x (Err (Fault kind)) a (λ y. gives (c y)) el em h
      (faults nodes limit z z kind (c (operand_of nodes x)) refl g)

  pub arm_leads : (l before mid after : ℕ) (x y : Computing) (a : Evaluation)
      (f : Operand → Result Value MapFaultKind) → l ≡ limit → mid ≡ before + 1 →
      Evaluated nodes l mid after (Ok x) a → (leads_to (f (operand_of nodes x))).outcome ≡ Ok (operand_of nodes y) →
      Evaluated nodes limit before after (Ok y) (with_steps 1 (and_operand a (λ p. leads_to (f p))))
  arm_leads l b m z x y a f el em h g =
      arm_goes_on l b m z x (Ok y) a (λ p. leads_to (f p)) el em h (leads z y (f (operand_of nodes x)) g)

  pub arm_leads_not : (l before mid after : ℕ) (x : Computing) (kind : MapFaultKind) (a : Evaluation)
      (f : Operand → Result Value MapFaultKind) → l ≡ limit → mid ≡ before + 1 →
      Evaluated nodes l mid after (Ok x) a → (leads_to (f (operand_of nodes x))).outcome ≡ Err kind →
      Evaluated nodes limit before after (Err (Fault kind)) (with_steps 1 (and_operand a (λ p. leads_to (f p))))
  arm_leads_not l b m z x kind a f el em h g = arm_goes_on l b m z x (Err (Fault kind)) a (λ p. leads_to (f p)) el em h
      (leads_not z kind (f (operand_of nodes x)) g)

  -- an evaluation after its own step
  pub arm_is : (l before mid after : ℕ) (r : Result Computing Unvalued) (a : Evaluation) →
      l ≡ limit → mid ≡ before + 1 →
      Evaluated nodes l mid after r a → Evaluated nodes limit before after r (with_steps 1 a)
  arm_is l b m z r a el em h = stepped nodes limit b m z r a em (at_limit nodes l limit m z r a el h)

  pub settles : (at : ℕ) (o : Option Bool) (b : Bool) (s : Scalar) (rest : Evaluation) → o ≡ Some b →
      ◌≡◌ {A = Computed} (Ok (scalar_label s)) (truth b) →
      Evaluated nodes limit at at (Ok (computing.Scalar s)) (unless_settled o rest)
  settles at o b s rest e h = rw e (computes nodes limit at at s (truth b) refl h)

  pub settles_not : (before after : ℕ) (r : Result Computing Unvalued) (o : Option Bool) (rest : Evaluation) →
      o ≡ None → Evaluated nodes limit before after r rest →
      Evaluated nodes limit before after r (unless_settled o rest)
  settles_not before after r o rest e h = rw e h

  pub not_chosen : (at : ℕ) (t : Result Bool MapFaultKind) (kind : MapFaultKind) (x y : Evaluation)
      (f : Operand → Evaluation) → t ≡ Err kind →
      Evaluated nodes limit at at (Err (Fault kind)) (and_operand (chosen t x y) f)
  unfolding and_operand
  not_chosen at t kind x y f e = rw e (refl, omega arith)

  pub left_chosen : (before after : ℕ) (r : Result Computing Unvalued) (t : Result Bool MapFaultKind) (x y : Evaluation)
      (f : Operand → Evaluation) → t ≡ Ok true →
      Evaluated nodes limit before after r (and_operand x f) →
      Evaluated nodes limit before after r (and_operand (chosen t x y) f)
  left_chosen before after r t x y f e h = rw e h

  pub right_chosen : (before after : ℕ) (r : Result Computing Unvalued) (t : Result Bool MapFaultKind)
      (x y : Evaluation) (f : Operand → Evaluation) → t ≡ Ok false →
      Evaluated nodes limit before after r (and_operand y f) →
      Evaluated nodes limit before after r (and_operand (chosen t x y) f)
  right_chosen before after r t x y f e h = rw e h

  -- the same for what matters to an operator about an operand
  pub seen_stops : (before after : ℕ) (u : Unvalued) (a : Evaluation) (f : Operand → Evaluation) →
      Seen limit before after (Err u) a → Evaluated nodes limit before after (Err u) (and_operand a f)
  seen_stops before after (Fault kind) a f h = first_stops nodes limit before after (Fault kind) a f h
  seen_stops before after Limit a f h = first_stops nodes limit before after Limit a f h

  pub seen_goes_on : (before between after : ℕ) (c : Content) (r : Result Computing Unvalued) (a : Evaluation)
      (f : Operand → Evaluation) → Seen limit before between (Ok c) a →
      ((x : Operand) → IsHeld c (operand_label x) → Evaluated nodes limit between after r (f x)) →
      Evaluated nodes limit before after r (and_operand a f)
  unfolding and_operand
  seen_goes_on before between after c (Ok y) a f h g = let k = g h.0 h.2 in rw h.1 (k.0, omega (arith, h.3, k.1))
  seen_goes_on before between after c (Err (Fault kind)) a f h g =
      let k = g h.0 h.2 in rw h.1 (k.0, omega (arith, h.3, k.1))
  seen_goes_on before between after c (Err Limit) a f h g = let k = g h.0 h.2 in rw h.1 (k.0, omega (arith, h.3, k.1))

  pub seen_at : (l before after : ℕ) (r : Result Content Unvalued) (a : Evaluation) → l ≡ limit →
      Seen l before after r a → Seen limit before after r a
  seen_at l before after r a e h = subst (λ (k : ℕ). Seen k before after r a) e h

  pub seen_arm_stops : (before mid after : ℕ) (u : Unvalued) (a : Evaluation) (f : Operand → Evaluation) →
      mid ≡ before + 1 →
      Seen limit mid after (Err u) a → Evaluated nodes limit before after (Err u) (with_steps 1 (and_operand a f))
  seen_arm_stops b m z u a f em h = stepped nodes limit b m z (Err u) (and_operand a f) em (seen_stops m z u a f h)

  pub seen_arm_computes : (before mid after : ℕ) (c : Content) (s : Scalar) (a : Evaluation) (g : Label → Computed) →
      mid ≡ before + 1 →
      Seen limit mid after (Ok c) a → ((x : Label) → IsHeld c x → ◌≡◌ {A = Computed} (Ok (scalar_label s)) (g x)) →
      Evaluated nodes limit before after (Ok (computing.Scalar s))
      (with_steps 1 (and_operand a (λ y. gives (g (operand_label y)))))
  seen_arm_computes b m z c s a g em h k =
      stepped nodes limit b m z (Ok (computing.Scalar s)) (and_operand a (λ y. gives (g (operand_label y)))) em
      (seen_goes_on m z z c (Ok (computing.Scalar s)) a (λ y. gives (g (operand_label y))) h
      (λ x held. computes nodes limit z z s (g (operand_label x)) refl (k (operand_label x) held)))

  pub seen_arm_faults : (before mid after : ℕ) (c : Content) (kind : MapFaultKind) (a : Evaluation)
      (g : Label → Computed) → mid ≡ before + 1 →
      Seen limit mid after (Ok c) a → ((x : Label) → IsHeld c x → ◌≡◌ {A = Computed} (Err kind) (g x)) →
      Evaluated nodes limit before after (Err (Fault kind))
      (with_steps 1 (and_operand a (λ y. gives (g (operand_label y)))))
  seen_arm_faults b m z c kind a g em h k =
      stepped nodes limit b m z (Err (Fault kind)) (and_operand a (λ y. gives (g (operand_label y)))) em
      (seen_goes_on m z z c (Err (Fault kind)) a (λ y. gives (g (operand_label y))) h
      (λ x held. faults nodes limit z z kind (g (operand_label x)) refl (k (operand_label x) held)))

  -- a computed number is its own content
  pub computed_seen : (before mid after : ℕ) (s : Scalar) (a : Evaluation) → mid ≡ before + 1 →
      Evaluated nodes limit mid after (Ok (computing.Scalar s)) a →
      Seen limit before after (Ok (content.Scalar s)) (with_steps 1 a)
  computed_seen b m z s a em h = (Plain (scalar_label s), h.0, refl, omega (arith, em, h.1))

  pub stops_seen : (before mid after : ℕ) (u : Unvalued) (a : Evaluation) → mid ≡ before + 1 →
      Evaluated nodes limit mid after (Err u) a → Seen limit before after (Err u) (with_steps 1 a)
  stops_seen b m z (Fault kind) a em h = (h.0, omega (arith, em, h.1))
  stops_seen b m z Limit a em h = (h.0, omega (arith, em, h.1))

  -- what was seen after a step
  pub stepped_seen : (before mid after : ℕ) (r : Result Content Unvalued) (a : Evaluation) → mid ≡ before + 1 →
      Seen limit mid after r a → Seen limit before after r (with_steps 1 a)
  stepped_seen b m z (Ok c) a em h = (h.0, h.1, h.2, omega (arith, em, h.3))
  stepped_seen b m z (Err (Fault kind)) a em h = (h.0, omega (arith, em, h.1))
  stepped_seen b m z (Err Limit) a em h = (h.0, omega (arith, em, h.1))
