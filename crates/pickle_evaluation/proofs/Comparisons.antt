-- Comparisons of integers, by the values of their sides.
use Rattle.std.proofs.Common.{◌≡◌, ℕ, ◌+◌, if◌then◌else◌, Bool, true, Some, None, Result, Ok, Err, ℤ, pos, refl}
use Rattle.pickle_tree.specs.declared.tree.Infix.{Infix}
use Rattle.pickle_tree.specs.declared.tree.Infix.TheVariants.{Equal, NotEqual, Less, LessEqual, Greater, GreaterEqual}
use Rattle.pickle_types.specs.declared.integer.IntegerType.{IntegerType}
use Rattle.pickle_types.specs.Types.{Term, Name, Between}
use Rattle.pickle_types.specs.Operators.{common}
use Rattle.pickle_meaning.specs.declared.faults.MapFaultKind.{MapFaultKind}
use Rattle.pickle_meaning.specs.Arithmetic.{Computed, converted, on_common, on_integers, combined, truth, signed_type}
use Rattle.pickle_evaluation.specs.Comes.{ComesTo, is_comparison}
use Rattle.pickle_meaning.specs.Evaluation.{Operand, Plain, AtPath, operand_label, Evaluation, evaluation, and_operand, unless_settled, settled, truth_of, between, literal_length, with_steps, gives}
use Rattle.value_store.specs.Scalars.{scalar_in}
use Rattle.pickle_meaning.specs.Values.{Label, IntegerLabel, OffsetLabel, TextLabel, ArrayLabel, StructLabel, UnionLabel, Value, Levels, label_of, value_at}

-- neither side settles a comparison alone
pub not_settled : (op : Infix) (t : Result Bool MapFaultKind) → is_comparison op ≡ true → settled op t ≡ None
not_settled Equal t e = refl
not_settled NotEqual t e = refl
not_settled Less t e = refl
not_settled LessEqual t e = refl
not_settled Greater t e = refl
not_settled GreaterEqual t e = refl
not_settled op t e = cc

pub common_order : (op : Infix) (x : ℤ) (t : IntegerType) (y : ℤ) (u : IntegerType) → is_comparison op ≡ true →
    on_integers op x t y u ≡ on_common op (common t u) (converted (common t u) x) (converted (common t u) y)
unfolding on_integers
common_order Equal x t y u e = refl
common_order NotEqual x t y u e = refl
common_order Less x t y u e = refl
common_order LessEqual x t y u e = refl
common_order Greater x t y u e = refl
common_order GreaterEqual x t y u e = refl
common_order op x t y u e = cc

pub last_comparison : (op : Infix) → is_comparison op ≡ true → (op ≡ Equal → ⊥) → (op ≡ NotEqual → ⊥) →
    (op ≡ Less → ⊥) → (op ≡ LessEqual → ⊥) → (op ≡ Greater → ⊥) → op ≡ GreaterEqual
last_comparison Equal e n1 n2 n3 n4 n5 = absurd (n1 refl)
last_comparison NotEqual e n1 n2 n3 n4 n5 = absurd (n2 refl)
last_comparison Less e n1 n2 n3 n4 n5 = absurd (n3 refl)
last_comparison LessEqual e n1 n2 n3 n4 n5 = absurd (n4 refl)
last_comparison Greater e n1 n2 n3 n4 n5 = absurd (n5 refl)
last_comparison GreaterEqual e n1 n2 n3 n4 n5 = refl
last_comparison op e n1 n2 n3 n4 n5 = cc

-- an operand that has a label, and the result for that label
pub and_comes : (a : Evaluation) (f : Operand → Evaluation) (g : Evaluation) (l : Label) (n : ℕ) → ComesTo a l n →
    ((x : Operand) → operand_label x ≡ l → f x ≡ g) → and_operand a f ≡ with_steps n g
unfolding and_operand
and_comes a f g l n h k = rw (h.1, h.3, k h.0 h.2) refl

integers_between : (op : Infix) (k : ℕ) (x : ℤ) (t : IntegerType) (y : ℤ) (u : IntegerType) (c : Computed) →
    c ≡ on_integers op x t y u → between op k (IntegerLabel x t) (IntegerLabel y u) ≡ gives c
unfolding combined
integers_between op k x t y u c e = rw (← e) (no_more c)
  where
    no_more : (c : Computed) → with_steps 0 (gives c) ≡ gives c
    no_more (Ok l) = refl
    no_more (Err f) = refl

label_integer : (l : Label) (n : ℤ) (t : IntegerType) → scalar_in l ≡ Some (IntegerLabel n t) → l ≡ IntegerLabel n t
label_integer (IntegerLabel number type) n t e = cc
label_integer (OffsetLabel magnitude type unit) n t e = cc
label_integer (TextLabel bytes) n t e = cc
label_integer ArrayLabel n t e = cc
label_integer (StructLabel name fields) n t e = cc
label_integer (UnionLabel name index alternative) n t e = cc

-- a name of an integer
pub names_integer : (levels : Levels) (level place : ℕ) (v : Value) (n : ℤ) (t : IntegerType) →
    value_at levels level place ≡ Some v →
    scalar_in (label_of v) ≡ Some (IntegerLabel n t) →
    ComesTo (evaluation (Name level place) levels) (IntegerLabel n t) 1
unfolding evaluation
names_integer levels level place v n t e l = rw e (AtPath v, refl, label_integer (label_of v) n t l, refl)

-- a comparison of two integers that are known at once
pub compares : (op : Infix) (a b : Term) (levels : Levels) (x : ℤ) (t : IntegerType) (y : ℤ) (u : IntegerType)
    (holds : Bool) → is_comparison op ≡ true →
    ComesTo (evaluation a levels) (IntegerLabel x t) 1 → ComesTo (evaluation b levels) (IntegerLabel y u) 1 →
    truth holds ≡ on_integers op x t y u →
    ComesTo (evaluation (Between op a b) levels) (IntegerLabel (if holds then pos 1 else pos 0) (signed_type 32)) 3
unfolding evaluation
compares op a b levels x t y u holds is left right e =
    let rest : (l : Operand) → operand_label l ≡ IntegerLabel x t →
    unless_settled (settled op (truth_of (operand_label l))) (and_operand (evaluation b levels)
    (λ r. between op (literal_length a + literal_length b) (operand_label l) (operand_label r)))
    ≡ with_steps 1 (gives (truth holds)) =
    λ l is_l. rw (not_settled op (truth_of (operand_label l)) is)
    (and_comes (evaluation b levels) _ (gives (truth holds)) (IntegerLabel y u) 1 right
    (λ r is_r. rw (is_l, is_r) (integers_between op (literal_length a + literal_length b) x t y u (truth holds) e))) in
    let all = and_comes (evaluation a levels) _ (with_steps 1 (gives (truth holds))) (IntegerLabel x t) 1 left rest in
    rw all (Plain (IntegerLabel (if holds then pos 1 else pos 0) (signed_type 32)), refl, refl, refl)
