-- The truths of evaluations made of evaluations, as their parts end.
use Rattle.std.proofs.Common.{◌≡◌, ℕ, ◌+◌, Bool, true, false, not, ◌&&◌, ◌||◌, if◌then◌else◌, List, Option, Some, None, Result, Ok, Err, ℤ, refl, sym, subst, ◌∙◌, arith}
use Rattle.pickle_tree.specs.declared.tree.Infix.{Infix}
use Rattle.pickle_tree.specs.declared.tree.Infix.TheVariants.{LogicalOr, LogicalAnd}
use Rattle.pickle_tree.specs.declared.tree.Prefix.{Prefix}
use Rattle.pickle_tree.specs.declared.tree.Prefix.TheVariants.{Plus, Minus, Complement, Not}
use Rattle.pickle_types.specs.declared.integer.IntegerType.{IntegerType}
use Rattle.pickle_meaning.specs.declared.faults.MapFaultKind.{MapFaultKind}
use Rattle.pickle_meaning.specs.declared.faults.MapFaultKind.TheVariants as fault
use Rattle.pickle_meaning.specs.Arithmetic.{combined, is_zero, on_bits, on_integers, on_scaled, on_texts, prefixed, truth, wrong_sort}
use Rattle.pickle_meaning.specs.Evaluation.{Operand, Plain, operand_label, Evaluation, and_operand, between, gives, is_text, settled, truth_of, unless_settled, with_steps}
use Rattle.pickle_meaning.specs.Values.{Label, IntegerLabel, OffsetLabel, TextLabel, ArrayLabel, StructLabel, UnionLabel}
use Rattle.pickle_evaluation.specs.declared.operand.Unvalued.{Unvalued}
use Rattle.pickle_evaluation.specs.declared.operand.Unvalued.TheVariants.{Fault, Limit}
use Rattle.pickle_evaluation.specs.Comes.{Seen, TruthSeen, is_logical, is_not}
use Rattle.pickle_evaluation.specs.Evaluating.{truth_label}
use Rattle.pickle_evaluation.proofs.Evaluations.{grows}

pub its_truth : (holds : Bool) → truth_of (truth_label holds) ≡ Ok holds
its_truth true = refl
its_truth false = refl

other_truth : (zero holds : Bool) → not zero ≡ holds → truth_of (truth_label zero) ≡ Ok (not holds)
other_truth true true e = cc
other_truth true false e = refl
other_truth false true e = refl
other_truth false false e = cc

-- only an integer has a truth
pub no_truth_is_absent : (x : Label) (kind : MapFaultKind) → truth_of x ≡ Err kind → kind ≡ fault.Absent
no_truth_is_absent (IntegerLabel n t) kind e = cc
no_truth_is_absent (OffsetLabel n t u) kind e = cc
no_truth_is_absent (TextLabel bytes) kind e = cc
no_truth_is_absent ArrayLabel kind e = cc
no_truth_is_absent (StructLabel name fields) kind e = cc
no_truth_is_absent (UnionLabel name index alternative) kind e = cc

only_not : (op : Prefix) → is_not op ≡ true → op ≡ Not
only_not Plus e = cc
only_not Minus e = cc
only_not Complement e = cc
only_not Not e = refl

-- the truth of `&&` and of `||` that the left side doesn't settle is that of the right side
right_and : (p q : Bool) → settled LogicalAnd (Ok p) ≡ None → truth (p && q) ≡ truth q
right_and true q e = refl
right_and false q e = cc

right_or : (p q : Bool) → settled LogicalOr (Ok p) ≡ None → truth (p || q) ≡ truth q
right_or true q e = cc
right_or false q e = refl

on_truths : (op : Infix) (n : ℤ) (t : IntegerType) (m : ℤ) (u : IntegerType) (p q : Bool) → is_logical op ≡ true →
    not (is_zero n) ≡ p → not (is_zero m) ≡ q → settled op (Ok p) ≡ None → on_integers op n t m u ≡ truth q
unfolding on_integers
on_truths LogicalOr n t m u p q l en em s = rw (en, em) (right_or p q s)
on_truths LogicalAnd n t m u p q l en em s = rw (en, em) (right_and p q s)
on_truths op n t m u p q l en em s = cc

join_scaled : (op : Infix) (t : IntegerType) (unit : ℕ) (x y : ℤ) → is_logical op ≡ true →
    on_scaled op t unit x y ≡ wrong_sort
unfolding on_scaled
join_scaled LogicalOr t unit x y l = refl
join_scaled LogicalAnd t unit x y l = refl
join_scaled op t unit x y l = cc

join_bits : (op : Infix) (t : IntegerType) (unit : ℕ) (x y : ℤ) → is_logical op ≡ true →
    on_bits op t unit x y ≡ wrong_sort
unfolding on_bits
join_bits LogicalOr t unit x y l = refl
join_bits LogicalAnd t unit x y l = refl
join_bits op t unit x y l = cc

join_texts : (op : Infix) (x y : List ℕ) → is_logical op ≡ true → on_texts op x y ≡ wrong_sort
unfolding on_texts
join_texts LogicalOr x y l = refl
join_texts LogicalAnd x y l = refl
join_texts op x y l = cc

pub join_integers : (op : Infix) (x y : Label) (p q : Bool) → is_logical op ≡ true → truth_of x ≡ Ok p →
    truth_of y ≡ Ok q → settled op (Ok p) ≡ None → combined op x y ≡ truth q
unfolding combined
join_integers op (IntegerLabel n t) (IntegerLabel m u) p q l ex ey s =
    let en : not (is_zero n) ≡ p = cc in let em : not (is_zero m) ≡ q = cc in on_truths op n t m u p q l en em s
join_integers op (IntegerLabel n t) (OffsetLabel m u k) p q l ex ey s = cc
join_integers op (IntegerLabel n t) (TextLabel bytes) p q l ex ey s = cc
join_integers op (IntegerLabel n t) ArrayLabel p q l ex ey s = cc
join_integers op (IntegerLabel n t) (StructLabel name fields) p q l ex ey s = cc
join_integers op (IntegerLabel n t) (UnionLabel name index alternative) p q l ex ey s = cc
join_integers op (OffsetLabel m u k) y p q l ex ey s = cc
join_integers op (TextLabel bytes) y p q l ex ey s = cc
join_integers op ArrayLabel y p q l ex ey s = cc
join_integers op (StructLabel name fields) y p q l ex ey s = cc
join_integers op (UnionLabel name index alternative) y p q l ex ey s = cc

join_others : (op : Infix) (x y : Label) → is_logical op ≡ true →
    ((p q : Bool) → truth_of x ≡ Ok p → truth_of y ≡ Ok q → ⊥) → combined op x y ≡ wrong_sort
unfolding combined
join_others op (IntegerLabel n t) (IntegerLabel m u) l apart =
    absurd (apart (not (is_zero n)) (not (is_zero m)) refl refl)
join_others op (IntegerLabel n t) (OffsetLabel m u k) l apart = join_scaled op _ _ _ _ l
join_others op (IntegerLabel n t) (TextLabel bytes) l apart = refl
join_others op (IntegerLabel n t) ArrayLabel l apart = refl
join_others op (IntegerLabel n t) (StructLabel name fields) l apart = refl
join_others op (IntegerLabel n t) (UnionLabel name index alternative) l apart = refl
join_others op (OffsetLabel n t k) (IntegerLabel m u) l apart = join_scaled op _ _ _ _ l
join_others op (OffsetLabel n t k) (OffsetLabel m u j) l apart = join_bits op _ _ _ _ l
join_others op (OffsetLabel n t k) (TextLabel bytes) l apart = refl
join_others op (OffsetLabel n t k) ArrayLabel l apart = refl
join_others op (OffsetLabel n t k) (StructLabel name fields) l apart = refl
join_others op (OffsetLabel n t k) (UnionLabel name index alternative) l apart = refl
join_others op (TextLabel bytes) (IntegerLabel m u) l apart = refl
join_others op (TextLabel bytes) (OffsetLabel m u j) l apart = refl
join_others op (TextLabel bytes) (TextLabel others) l apart = join_texts op bytes others l
join_others op (TextLabel bytes) ArrayLabel l apart = refl
join_others op (TextLabel bytes) (StructLabel name fields) l apart = refl
join_others op (TextLabel bytes) (UnionLabel name index alternative) l apart = refl
join_others op ArrayLabel y l apart = refl
join_others op (StructLabel name fields) y l apart = refl
join_others op (UnionLabel name index alternative) y l apart = refl

no_literal : (both : Bool) (k : ℕ) → k ≡ 0 → (if both then k else 0) ≡ 0
no_literal true k e = e
no_literal false k e = refl

module _ (limit : ℕ) where
  pub truth_at : (l before after : ℕ) (r : Result (Result Bool MapFaultKind) Unvalued) (a : Evaluation) → l ≡ limit →
      TruthSeen l before after r a → TruthSeen limit before after r a
  truth_at l before after r a e h = subst (λ (k : ℕ). TruthSeen k before after r a) e h

  pub unseen_truth : (before after : ℕ) (u : Unvalued) (a : Evaluation) → Seen limit before after (Err u) a →
      TruthSeen limit before after (Err u) a
  unseen_truth before after (Fault kind) a h = h
  unseen_truth before after Limit a h = h

  -- the first operand has no value, so the whole has none
  pub truth_stops : (before after : ℕ) (u : Unvalued) (a : Evaluation) (f : Operand → Evaluation) →
      TruthSeen limit before after (Err u) a → TruthSeen limit before after (Err u) (and_operand a f)
  unfolding and_operand
  truth_stops b z (Fault kind) a f h = rw h.0 (refl, h.1)
  truth_stops b z Limit a f h = let g = grows a f in (h.0, omega (arith, h.1, g))

  -- the first operand has a value, so the evaluation continues with the next
  pub truth_goes_on : (before between after : ℕ) (t : Result Bool MapFaultKind)
      (r : Result (Result Bool MapFaultKind) Unvalued) (a : Evaluation) (f : Operand → Evaluation) →
      TruthSeen limit before between (Ok t) a →
      ((x : Operand) → truth_of (operand_label x) ≡ t → TruthSeen limit between after r (f x)) →
      TruthSeen limit before after r (and_operand a f)
  unfolding and_operand
  truth_goes_on b m z t (Ok s) a f h g = let k = g h.0 h.2 in rw h.1 (k.0, k.1, k.2, omega (arith, h.3, k.3))
  truth_goes_on b m z t (Err (Fault kind)) a f h g = let k = g h.0 h.2 in rw h.1 (k.0, omega (arith, h.3, k.1))
  truth_goes_on b m z t (Err Limit) a f h g = let k = g h.0 h.2 in rw h.1 (k.0, omega (arith, h.3, k.1))

  -- what was seen after a step
  pub truth_stepped : (before mid after : ℕ) (r : Result (Result Bool MapFaultKind) Unvalued) (a : Evaluation) →
      mid ≡ before + 1 → TruthSeen limit mid after r a → TruthSeen limit before after r (with_steps 1 a)
  truth_stepped b m z (Ok t) a em h = (h.0, h.1, h.2, omega (arith, em, h.3))
  truth_stepped b m z (Err (Fault kind)) a em h = (h.0, omega (arith, em, h.1))
  truth_stepped b m z (Err Limit) a em h = (h.0, omega (arith, em, h.1))

  pub truth_settles : (at : ℕ) (o : Option Bool) (holds : Bool) (rest : Evaluation) → o ≡ Some holds →
      TruthSeen limit at at (Ok (Ok holds)) (unless_settled o rest)
  truth_settles at o holds rest e = rw e (Plain (truth_label holds), refl, its_truth holds, omega arith)

  pub truth_settles_not : (before after : ℕ) (r : Result (Result Bool MapFaultKind) Unvalued) (o : Option Bool)
      (rest : Evaluation) → o ≡ None → TruthSeen limit before after r rest →
      TruthSeen limit before after r (unless_settled o rest)
  truth_settles_not before after r o rest e h = rw e h

  pub joins : (at : ℕ) (op : Infix) (k : ℕ) (x y : Label) (p q : Bool) → is_logical op ≡ true → k ≡ 0 →
      truth_of x ≡ Ok p → truth_of y ≡ Ok q → settled op (Ok p) ≡ None →
      TruthSeen limit at at (Ok (Ok q)) (between op k x y)
  joins at op k x y p q l e ex ey s = let none = no_literal (is_text x && is_text y) k e in
      rw (join_integers op x y p q l ex ey s, none) (Plain (truth_label q), refl, its_truth q, omega arith)

  -- a side has no truth
  joins_not : (at : ℕ) (op : Infix) (k : ℕ) (x y : Label) (kind : MapFaultKind) → is_logical op ≡ true → k ≡ 0 →
      kind ≡ fault.Absent → ((p q : Bool) → truth_of x ≡ Ok p → truth_of y ≡ Ok q → ⊥) →
      TruthSeen limit at at (Err (Fault kind)) (between op k x y)
  joins_not at op k x y kind l e absent apart = let none = no_literal (is_text x && is_text y) k e in
      rw (join_others op x y l apart, none, absent) (refl, omega arith)

  pub left_joins_not : (at : ℕ) (op : Infix) (k : ℕ) (x y : Label) (kind : MapFaultKind) → is_logical op ≡ true →
      k ≡ 0 → truth_of x ≡ Err kind → TruthSeen limit at at (Err (Fault kind)) (between op k x y)
  left_joins_not at op k x y kind l e ex =
      joins_not at op k x y kind l e (no_truth_is_absent x kind ex) (λ p q px qy. let c = sym ex ∙ px in cc)

  pub right_joins_not : (at : ℕ) (op : Infix) (k : ℕ) (x y : Label) (kind : MapFaultKind) → is_logical op ≡ true →
      k ≡ 0 → truth_of y ≡ Err kind → TruthSeen limit at at (Err (Fault kind)) (between op k x y)
  right_joins_not at op k x y kind l e ey =
      joins_not at op k x y kind l e (no_truth_is_absent y kind ey) (λ p q px qy. let c = sym ey ∙ qy in cc)

  negates_at : (at : ℕ) (x : Label) (holds : Bool) → truth_of x ≡ Ok holds →
      TruthSeen limit at at (Ok (Ok (not holds))) (gives (prefixed Not x))
  unfolding prefixed
  negates_at at (IntegerLabel n t) holds e = let same : not (is_zero n) ≡ holds = cc in
      (Plain (truth_label (is_zero n)), refl, other_truth (is_zero n) holds same, omega arith)
  negates_at at (OffsetLabel n t u) holds e = cc
  negates_at at (TextLabel bytes) holds e = cc
  negates_at at ArrayLabel holds e = cc
  negates_at at (StructLabel name fields) holds e = cc
  negates_at at (UnionLabel name index alternative) holds e = cc

  pub negates : (at : ℕ) (op : Prefix) (x : Label) (holds : Bool) → is_not op ≡ true → truth_of x ≡ Ok holds →
      TruthSeen limit at at (Ok (Ok (not holds))) (gives (prefixed op x))
  negates at op x holds is e = rw (only_not op is) (negates_at at x holds e)

  not_negated : (x : Label) (kind : MapFaultKind) → truth_of x ≡ Err kind → prefixed Not x ≡ wrong_sort
  unfolding prefixed
  not_negated (IntegerLabel n t) kind e = cc
  not_negated (OffsetLabel n t u) kind e = refl
  not_negated (TextLabel bytes) kind e = refl
  not_negated ArrayLabel kind e = refl
  not_negated (StructLabel name fields) kind e = refl
  not_negated (UnionLabel name index alternative) kind e = refl

  pub negates_not : (at : ℕ) (op : Prefix) (x : Label) (kind : MapFaultKind) → is_not op ≡ true →
      truth_of x ≡ Err kind →
      TruthSeen limit at at (Err (Fault kind)) (gives (prefixed op x))
  negates_not at op x kind is e =
      rw (only_not op is, not_negated x kind e, no_truth_is_absent x kind e) (refl, omega arith)
