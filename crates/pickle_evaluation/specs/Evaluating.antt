-- What the calls of an evaluation did over the frames of a store, whatever table gives the names.
use Rattle.std.specs.Prelude.{◌≡◌, ℕ, ◌+◌, ℤ, pos, Bool, List, Option, Result, IfSome, if◌then◌else◌}
use Rattle.bit_space.specs.declared.meter.Meter.{Meter}
use Rattle.pickle_types.specs.declared.integer.IntegerType.{IntegerType}
use Rattle.pickle_types.specs.declared.node.Node.{Node}
use Rattle.pickle_types.specs.Types.{Term}
use Rattle.pickle_tree.specs.declared.tree.Infix.{Infix}
use Rattle.pickle_meaning.specs.declared.faults.MapFaultKind.{MapFaultKind}
use Rattle.pickle_meaning.specs.Arithmetic.{signed_type}
use Rattle.pickle_meaning.specs.Evaluation.{AtPath, Evaluation, evaluation, operand_label, and_operand, gives, as_common, between, element, leads_to}
use Rattle.pickle_meaning.specs.Values.{Label, IntegerLabel, Levels}
use Rattle.pickle_evaluation.specs.declared.comparison.Typed.{Typed}
use Rattle.pickle_evaluation.specs.declared.content.Content.{Content}
use Rattle.pickle_evaluation.specs.declared.operand.Operand.{Operand as Computing}
use Rattle.pickle_evaluation.specs.declared.operand.Unvalued.{Unvalued}
use Rattle.pickle_evaluation.specs.Comes.{Comes, ComesTo, Seen, TruthSeen, computed_operand}
use Rattle.pickle_evaluation.specs.Contents.{IsHeld}
use Rattle.pickle_evaluation.specs.Operands.{Evaluated, found_value, operand_of}
use Rattle.value_store.specs.declared.scalar.Scalar.{Scalar}
use Rattle.value_store.specs.declared.stored.StoredValue.{StoredValue}
use Rattle.value_store.specs.Refs.{value_of}
use Rattle.value_store.specs.Slots.{Held, levels}

-- the label of a truth
abbrev pub truth_label : Bool → Label
truth_label holds = IntegerLabel (if holds then pos 1 else pos 0) (signed_type 32)

-- the evaluation over the frames was computed
abbrev pub Evaluates : (meter meter' : Meter) → Held → Result Computing Unvalued → (Levels → Evaluation) → Type 0
Evaluates meter meter' store result of =
    (nodes : List Node) → Evaluated nodes meter.limit meter.steps meter'.steps result (of (levels nodes store))

-- the same, after its first step was taken
abbrev pub EvaluatesOn : (meter meter' : Meter) → Held → Result Computing Unvalued → (Levels → Evaluation) → Type 0
EvaluatesOn meter meter' store result of =
    (nodes : List Node) (before : ℕ) → meter.steps ≡ before + 1 →
    Evaluated nodes meter.limit before meter'.steps result (of (levels nodes store))

-- what matters to an operator about the evaluation was computed
abbrev pub Looks : (meter meter' : Meter) → Held → Result Content Unvalued → (Levels → Evaluation) → Type 0
Looks meter meter' store result of =
    (nodes : List Node) → Seen meter.limit meter.steps meter'.steps result (of (levels nodes store))

-- the truth of the evaluation's value was computed
abbrev pub EvaluatesTruth :
    (meter meter' : Meter) → Held → Result (Result Bool MapFaultKind) Unvalued → (Levels → Evaluation) → Type 0
EvaluatesTruth meter meter' store result of =
    (nodes : List Node) → TruthSeen meter.limit meter.steps meter'.steps result (of (levels nodes store))

-- an evaluated side becomes the result, converted to a type
abbrev pub Chooses : Option IntegerType → (side result : Result Computing Unvalued) → Type 0
Chooses common side result =
    (nodes : List Node) (limit before after : ℕ) (a : Evaluation) → Evaluated nodes limit before after side a →
    Evaluated nodes limit before after result (and_operand a (λ z. gives (as_common common (operand_label z))))

-- an operator computes on two contents
abbrev pub Combines : (meter meter' : Meter) → Infix → (literal : ℕ) → (x y : Content) → Result Scalar Unvalued → Type 0
Combines meter meter' op literal x y result =
    (nodes : List Node) (a b : Label) → IsHeld x a → IsHeld y b →
    Evaluated nodes meter.limit meter.steps meter'.steps (computed_operand result) (between op literal a b)

-- the element of an operand at an index of this content
abbrev pub Indexes : (p : Computing) → (n : Content) → Result Computing MapFaultKind → Type 0
Indexes p n result = (nodes : List Node) (x : Label) → IsHeld n x →
    Comes nodes result (leads_to (element (operand_of nodes p) x)).outcome

-- the element of a value at an index was found
abbrev pub FindsElement : StoredValue → (index : ℤ) → Result StoredValue MapFaultKind → Type 0
FindsElement value index found =
    (nodes : List Node) (type : IntegerType) →
    found_value nodes found ≡ element (AtPath (value_of nodes value)) (IntegerLabel index type)

-- an expression is the integer that was found, in one step
abbrev pub FindsInteger : Held → Term → Option Typed → Type 0
FindsInteger store e found =
    (nodes : List Node) → IfSome found (λ n. ComesTo (evaluation e (levels nodes store)) (IntegerLabel n.number n.of) 1)

-- an expression is the truth that was found, in three steps
abbrev pub FindsTruth : Held → Term → Option Bool → Type 0
FindsTruth store e found =
    (nodes : List Node) → IfSome found (λ holds. ComesTo (evaluation e (levels nodes store)) (truth_label holds) 3)
