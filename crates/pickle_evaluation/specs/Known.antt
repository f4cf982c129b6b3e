-- The value of an expression, as it is borrowed for messages about a mapping.
use Rattle.std.specs.Prelude.{◌≡◌, ◌<◌, ◌-◌, ◌^◌, Option, Some, None, Ok, Err}
use Rattle.pickle_meaning.specs.declared.faults.MapFaultKind.{MapFaultKind}
use Rattle.pickle_evaluation.specs.declared.known.Known.{Known}
use Rattle.pickle_evaluation.specs.declared.known.Known.TheVariants as known
use Rattle.pickle_meaning.specs.Values.{IntegerLabel, OffsetLabel, TextLabel}
use Rattle.pickle_meaning.specs.Evaluation.{Operand, AtPath, Plain, Evaluation}
use Rattle.value_store.specs.Refs.{value_shown}

abbrev pub known_operand : Known → Operand
known_operand (known.Integer number type) = Plain (IntegerLabel number type)
known_operand (known.Offset magnitude type unit) = Plain (OffsetLabel magnitude type unit)
known_operand (known.Text bytes) = Plain (TextLabel bytes.now)
known_operand (known.Value value) = AtPath (value_shown value)

-- there is no value where there is a fault, or where the evaluation takes 2^64 steps or more
pub data IsUnknown (e : Evaluation) : Type 0 where
  faulty : (kind : MapFaultKind) → e.outcome ≡ Err kind → IsUnknown e
  endless : 2 ^ 64 - 1 < e.steps → IsUnknown e

abbrev pub KnownOf : Option Known → Evaluation → Type 0
KnownOf (Some it) e = e.outcome ≡ Ok (known_operand it)
KnownOf None e = IsUnknown e
