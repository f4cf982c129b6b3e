-- The value that an evaluation gives, or a part of one that takes no steps.
use Rattle.std.specs.Prelude.{◌≡◌, ℕ, ◌+◌, ◌<◌, Bool, true, false, List, Option, Result, Ok, Err}
use Rattle.pickle_types.specs.declared.node.Node.{Node}
use Rattle.pickle_evaluation.specs.declared.operand.Operand.{Operand as Computing}
use Rattle.value_store.specs.declared.scalar.Scalar.{Scalar}
use Rattle.pickle_evaluation.specs.declared.operand.Operand.TheVariants as computing
use Rattle.pickle_evaluation.specs.declared.operand.Unvalued.{Unvalued}
use Rattle.pickle_evaluation.specs.declared.operand.Unvalued.TheVariants.{Fault, Limit}
use Rattle.pickle_evaluation.specs.declared.content.Content.{Content}
use Rattle.pickle_evaluation.specs.Contents.{IsHeld}
use Rattle.pickle_meaning.specs.declared.faults.MapFaultKind.{MapFaultKind}
use Rattle.pickle_meaning.specs.Evaluation.{Operand, operand_label, Evaluation, evaluation, and_operand, unless_settled, settled, truth_of, between, literal_length, chosen, gives, as_common, element, leads_to}
use Rattle.pickle_tree.specs.declared.tree.Prefix.{Prefix}
use Rattle.pickle_tree.specs.declared.tree.Prefix.TheVariants.{Not}
use Rattle.pickle_tree.specs.declared.tree.Infix.{Infix}
use Rattle.pickle_tree.specs.declared.tree.Infix.TheVariants.{LogicalOr, LogicalAnd, Equal, NotEqual, Less, LessEqual, Greater, GreaterEqual}
use Rattle.pickle_types.specs.declared.integer.IntegerType.{IntegerType}
use Rattle.pickle_types.specs.Types.{Term, Before, Select, AttributeOf, ToInteger, ToOffset, InUnit}
use Rattle.pickle_meaning.specs.Values.{Label, Levels}
use Rattle.pickle_evaluation.specs.Operands.{operand_of}

abbrev pub Comes : List Node → Result Computing MapFaultKind → Result Operand MapFaultKind → Type 0
Comes nodes (Ok x) o = o ≡ Ok (operand_of nodes x)
Comes nodes (Err kind) o = o ≡ Err kind

-- the evaluation of an operator's operands, after the operator's own step
abbrev pub infix_part : Infix → (a b : Term) → Levels → Evaluation
infix_part op a b levels =
    and_operand (evaluation a levels) (λ x.
    unless_settled (settled op (truth_of (operand_label x))) (and_operand (evaluation b levels) (λ y.
    between op (literal_length a + literal_length b) (operand_label x) (operand_label y))))

abbrev pub choice_part : Option IntegerType → (c x y : Term) → Levels → Evaluation
choice_part common c x y levels =
    and_operand (evaluation c levels) (λ t.
    and_operand (chosen (truth_of (operand_label t)) (evaluation x levels) (evaluation y levels)) (λ z.
    gives (as_common common (operand_label z))))

abbrev pub index_part : (e i : Term) → Levels → Evaluation
index_part e i levels = and_operand (evaluation e levels)
    (λ p. and_operand (evaluation i levels) (λ n. leads_to (element p (operand_label n))))

-- an evaluation gives a value of this label, in so many steps
abbrev pub ComesTo : Evaluation → Label → ℕ → Type 0
ComesTo a label steps = (x : Operand) × (a.outcome ≡ Ok x) × (operand_label x ≡ label) × (a.steps ≡ steps)

-- a computed number as an operand, or why there is none
abbrev pub computed_operand : Result Scalar Unvalued → Result Computing Unvalued
computed_operand (Ok s) = Ok (computing.Scalar s)
computed_operand (Err u) = Err u

-- what matters to an operator about an evaluation's value, once it has ended
abbrev pub Seen : (limit before after : ℕ) → Result Content Unvalued → Evaluation → Type 0
Seen limit before after (Ok content) a =
    (x : Operand) × (a.outcome ≡ Ok x) × IsHeld content (operand_label x) × (after ≡ before + a.steps)
Seen limit before after (Err (Fault kind)) a = (a.outcome ≡ Err kind) × (after ≡ before + a.steps)
Seen limit before after (Err Limit) a = (after ≡ limit) × (limit < before + a.steps)

-- the truth of an evaluation's value, once it has ended
abbrev pub TruthSeen :
    (limit before after : ℕ) → Result (Result Bool MapFaultKind) Unvalued → Evaluation → Type 0
TruthSeen limit before after (Ok holds) a =
    (x : Operand) × (a.outcome ≡ Ok x) × (truth_of (operand_label x) ≡ holds) × (after ≡ before + a.steps)
TruthSeen limit before after (Err (Fault kind)) a = (a.outcome ≡ Err kind) × (after ≡ before + a.steps)
TruthSeen limit before after (Err Limit) a = (after ≡ limit) × (limit < before + a.steps)

-- the operators that join two truths
abbrev pub is_logical : Infix → Bool
is_logical LogicalOr = true
is_logical LogicalAnd = true
is_logical op = false

-- the prefix that inverts a truth
abbrev pub is_not : Prefix → Bool
is_not Not = true
is_not op = false

-- the operators that compare
abbrev pub is_comparison : Infix → Bool
is_comparison Equal = true
is_comparison NotEqual = true
is_comparison Less = true
is_comparison LessEqual = true
is_comparison Greater = true
is_comparison GreaterEqual = true
is_comparison op = false

-- a prefix or a suffix of one operand
abbrev pub IsApplied : Term → Type 0
IsApplied (Before op e) = Unit {0}
IsApplied (Select e place) = Unit {0}
IsApplied (AttributeOf attribute e) = Unit {0}
IsApplied (ToInteger type e) = Unit {0}
IsApplied (ToOffset type unit e) = Unit {0}
IsApplied (InUnit unit e) = Unit {0}
IsApplied e = ⊥
