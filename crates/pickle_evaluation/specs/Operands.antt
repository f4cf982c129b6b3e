-- The operands of an expression, while they are computed.
use Rattle.std.specs.Prelude.{◌≡◌, ℕ, ◌+◌, ◌<◌, List, Result, Ok, Err}
use Rattle.pickle_types.specs.declared.node.Node.{Node}
use Rattle.pickle_evaluation.specs.declared.operand.Operand.{Operand as Computing}
use Rattle.pickle_evaluation.specs.declared.operand.Operand.TheVariants as computing
use Rattle.pickle_evaluation.specs.declared.operand.Unvalued.{Unvalued}
use Rattle.pickle_evaluation.specs.declared.operand.Unvalued.TheVariants.{Fault, Limit}
use Rattle.pickle_meaning.specs.declared.faults.MapFaultKind.{MapFaultKind}
use Rattle.value_store.specs.declared.stored.StoredValue.{StoredValue}
use Rattle.value_store.specs.Refs.{value_of}
use Rattle.pickle_meaning.specs.Values.{Value, TextLabel}
use Rattle.pickle_meaning.specs.Evaluation.{Operand, AtPath, Plain, Evaluation}
use Rattle.value_store.specs.Scalars.{scalar_label, IsScalar}

abbrev pub operand_of : List Node → Computing → Operand
operand_of nodes (computing.Scalar s) = Plain (scalar_label s)
operand_of nodes (computing.Text bytes) = Plain (TextLabel bytes.now)
operand_of nodes (computing.Value r) = AtPath (value_of nodes r)

abbrev pub IsOperand : Computing → Type 0
IsOperand (computing.Scalar s) = IsScalar s
IsOperand (computing.Text bytes) = Unit {0}
IsOperand (computing.Value r) = Unit {0}

-- the value that was found, with the names of a table
abbrev pub found_value : List Node → Result StoredValue MapFaultKind → Result Value MapFaultKind
found_value nodes (Ok r) = Ok (value_of nodes r)
found_value nodes (Err kind) = Err kind

-- an evaluation that ended: with its value or fault after all its steps, or without a step left
abbrev pub Evaluated : List Node → (limit before after : ℕ) → Result Computing Unvalued → Evaluation → Type 0
Evaluated nodes limit before after (Ok x) e = (e.outcome ≡ Ok (operand_of nodes x)) × (after ≡ before + e.steps)
Evaluated nodes limit before after (Err (Fault kind)) e = (e.outcome ≡ Err kind) × (after ≡ before + e.steps)
Evaluated nodes limit before after (Err Limit) e = (after ≡ limit) × (limit < before + e.steps)
