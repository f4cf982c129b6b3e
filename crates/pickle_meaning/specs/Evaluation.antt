-- The evaluation of an expression over the open frames: its value or its first fault, and its steps.
use Rattle.std.specs.Prelude.{ℕ, ◌+◌, ◌-◌, length, Bool, true, false, not, ◌&&◌, if◌then◌else◌, nat_eq, nat_lt, Option, Some, None, Result, Ok, Err, pos, negsuc}
use Rattle.pickle_tree.specs.declared.tree.Attribute.{Attribute}
use Rattle.pickle_tree.specs.declared.tree.Attribute.TheVariants.{Length, Size}
use Rattle.pickle_tree.specs.declared.tree.Infix.{Infix}
use Rattle.pickle_tree.specs.declared.tree.Infix.TheVariants.{LogicalOr, LogicalAnd}
use Rattle.pickle_types.specs.declared.integer.IntegerType.{IntegerType}
use Rattle.pickle_types.specs.Types.{Term, Number, Text, Name, Bracket, Before, Between, Choice, Index, Select, AttributeOf, ToInteger, ToOffset, InUnit}
use Rattle.pickle_meaning.specs.declared.faults.MapFaultKind.{MapFaultKind}
use Rattle.pickle_meaning.specs.declared.faults.MapFaultKind.TheVariants as fault
use Rattle.pickle_meaning.specs.Values.{Label, IntegerLabel, OffsetLabel, TextLabel, ArrayLabel, StructLabel, UnionLabel, Value, Mapped, label_of, member_count, member_at, Levels, value_at}
use Rattle.pickle_meaning.specs.Arithmetic.{Computed, unsigned_type, truth, is_zero, prefixed, combined, to_integer, to_offset, in_unit}

-- the value of an expression: the value at a path, or a computed integer, offset or text
pub data Operand : Type 0 where
  AtPath : (value : Value) → Operand
  Plain : (label : Label) → Operand

abbrev pub operand_label : Operand → Label
operand_label (AtPath value) = label_of value
operand_label (Plain label) = label

-- a value or the first fault, whose place is that of the clause, and the steps up to it
pub record Evaluation : Type 0 where
  pub outcome : Result Operand MapFaultKind
  pub steps : ℕ

-- a result that takes no steps of its own
abbrev pub gives : Computed → Evaluation
gives (Ok label) = record { outcome = Ok (Plain label); steps = 0 }
gives (Err f) = record { outcome = Err f; steps = 0 }

-- a value, or Absent where there is none
abbrev pub present : Option Value → Result Value MapFaultKind
present None = Err fault.Absent
present (Some value) = Ok value

-- the value at a path, which takes no steps of its own
abbrev pub leads_to : Result Value MapFaultKind → Evaluation
leads_to (Ok value) = record { outcome = Ok (AtPath value); steps = 0 }
leads_to (Err f) = record { outcome = Err f; steps = 0 }

-- an evaluation with n more steps
abbrev pub with_steps : ℕ → Evaluation → Evaluation
with_steps n a = record { outcome = a.outcome; steps = n + a.steps }

abbrev pub on_outcome : Result Operand MapFaultKind → ℕ → (Operand → Evaluation) → Evaluation
on_outcome (Ok x) steps f = with_steps steps (f x)
on_outcome (Err e) steps f = record { outcome = Err e; steps = steps }

-- an operand, and then what is done with its value; a fault of the operand is the fault of the whole
unfoldable pub and_operand : Evaluation → (Operand → Evaluation) → Evaluation
and_operand a f = on_outcome a.outcome a.steps f

-- a truth: any integer but 0 is true
abbrev pub truth_of : Label → Result Bool MapFaultKind
truth_of (IntegerLabel x type) = Ok (not (is_zero x))
truth_of (OffsetLabel x type unit) = Err fault.Absent
truth_of (TextLabel bytes) = Err fault.Absent
truth_of ArrayLabel = Err fault.Absent
truth_of (StructLabel name fields) = Err fault.Absent
truth_of (UnionLabel name index alternative) = Err fault.Absent

-- the truth of `&&` or `||` where the left side settles it
abbrev pub settled : Infix → Result Bool MapFaultKind → Option Bool
settled LogicalAnd (Ok false) = Some false
settled LogicalOr (Ok true) = Some true
settled op x = None

-- the right side is evaluated only where the left one doesn't settle the truth
abbrev pub unless_settled : Option Bool → Evaluation → Evaluation
unless_settled None rest = rest
unless_settled (Some b) rest = gives (truth b)

-- the number of bytes of a text literal
abbrev pub literal_length : Term → ℕ
literal_length (Text bytes) = length bytes
literal_length e = 0

abbrev pub is_text : Label → Bool
is_text (TextLabel bytes) = true
is_text x = false

-- an operator on two values; a comparison of texts takes a step for each byte of the literal
abbrev pub between : Infix → (literal : ℕ) → Label → Label → Evaluation
between op literal x y = with_steps (if is_text x && is_text y then literal else 0) (gives (combined op x y))

-- only the chosen side of a choice is evaluated
abbrev pub chosen : Result Bool MapFaultKind → Evaluation → Evaluation → Evaluation
chosen (Ok true) x y = x
chosen (Ok false) x y = y
chosen (Err f) x y = record { outcome = Err f; steps = 0 }

-- an integer or an offset, unchanged
abbrev pub number_only : Label → Computed
number_only (IntegerLabel x type) = Ok (IntegerLabel x type)
number_only (OffsetLabel x type unit) = Ok (OffsetLabel x type unit)
number_only (TextLabel bytes) = Err fault.Absent
number_only ArrayLabel = Err fault.Absent
number_only (StructLabel name fields) = Err fault.Absent
number_only (UnionLabel name index alternative) = Err fault.Absent

-- a chosen integer is converted to the common type; an offset stays as it is
abbrev pub as_common : Option IntegerType → Label → Computed
as_common None x = number_only x
as_common (Some type) x = to_integer type x

-- the field of a struct, or the alternative of a union if it matched
abbrev pub selected : Operand → ℕ → Option Value
selected (Plain label) place = None
selected (AtPath (Mapped (StructLabel name fields) start end members)) place = member_at members place
selected (AtPath (Mapped (UnionLabel name index alternative) start end members)) place =
    if nat_eq index place then member_at members 0 else None
selected (AtPath value) place = None

-- the element of an array; an index that is negative or not less than the count is Index
abbrev pub element : Operand → Label → Result Value MapFaultKind
element (AtPath (Mapped ArrayLabel start end members)) (IntegerLabel (pos i) type) =
    if nat_lt i (member_count members) then present (member_at members i) else Err fault.Index
element (AtPath (Mapped ArrayLabel start end _)) (IntegerLabel (negsuc i) type) = Err fault.Index
element p i = Err fault.Absent

-- the number of elements of an array, or the size of a value in bits
abbrev pub attribute_of : Attribute → Operand → Computed
attribute_of Length (AtPath (Mapped ArrayLabel start end members)) =
    Ok (IntegerLabel (pos (member_count members)) (unsigned_type 64))
attribute_of Size (AtPath (Mapped label start end _)) = Ok (OffsetLabel (pos (end - start)) (unsigned_type 64) 1)
attribute_of attribute x = Err fault.Absent

-- each node takes a step, before its operands; operands are evaluated from left to right
unfoldable pub evaluation : Term → Levels → Evaluation
evaluation (Number type value) levels = with_steps 1 (gives (Ok (IntegerLabel (pos value) type)))
evaluation (Text bytes) levels = with_steps 1 (gives (Ok (TextLabel bytes)))
evaluation (Name level place) levels = with_steps 1 (leads_to (present (value_at levels level place)))
evaluation (Bracket e) levels = with_steps 1 (evaluation e levels)
evaluation (Before op e) levels =
    with_steps 1 (and_operand (evaluation e levels) (λ x. gives (prefixed op (operand_label x))))
evaluation (Between op a b) levels =
    with_steps 1 (and_operand (evaluation a levels) (λ x.
    unless_settled (settled op (truth_of (operand_label x))) (and_operand (evaluation b levels) (λ y.
    between op (literal_length a + literal_length b) (operand_label x) (operand_label y)))))
evaluation (Choice common c x y) levels =
    with_steps 1 (and_operand (evaluation c levels) (λ t.
    and_operand (chosen (truth_of (operand_label t)) (evaluation x levels) (evaluation y levels)) (λ z.
    gives (as_common common (operand_label z)))))
evaluation (Index e i) levels = with_steps 1 (and_operand (evaluation e levels)
    (λ p. and_operand (evaluation i levels) (λ n. leads_to (element p (operand_label n)))))
evaluation (Select e place) levels =
    with_steps 1 (and_operand (evaluation e levels) (λ p. leads_to (present (selected p place))))
evaluation (AttributeOf attribute e) levels =
    with_steps 1 (and_operand (evaluation e levels) (λ p. gives (attribute_of attribute p)))
evaluation (ToInteger type e) levels =
    with_steps 1 (and_operand (evaluation e levels) (λ x. gives (to_integer type (operand_label x))))
evaluation (ToOffset type unit e) levels =
    with_steps 1 (and_operand (evaluation e levels) (λ x. gives (to_offset type unit (operand_label x))))
evaluation (InUnit unit e) levels =
    with_steps 1 (and_operand (evaluation e levels) (λ x. gives (in_unit unit (operand_label x))))
