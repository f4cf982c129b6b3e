-- What is computed of a constraint over one number.
use Rattle.std.specs.Prelude.{◌≡◌, ◌+◌, ◌-◌, ◌^◌, min, ℕ, true, false, not, Bool, Option, Some, None, Result, Ok, Err}
use Rattle.pickle_tree.specs.declared.tree.Infix.{Infix}
use Rattle.pickle_meaning.specs.declared.faults.MapFaultKind.{MapFaultKind}
use Rattle.pickle_meaning.specs.Arithmetic.{Computed, combined, truth}
use Rattle.pickle_meaning.specs.Evaluation.{Operand, operand_label, Evaluation, evaluation, settled, truth_of}
use Rattle.pickle_meaning.specs.Values.{Label, Value, label_of, Levels, value_at}
use Rattle.pickle_types.specs.Types.{Term}
use Rattle.value_store.specs.declared.scalar.Scalar.{Scalar}
use Rattle.value_store.specs.Scalars.{computed_of, scalar_label}
use Rattle.first_numbers.specs.declared.judge.Judged.{Judged}
use Rattle.first_numbers.specs.Layouts.{is_over_own}

-- what an evaluation comes to, as a label or a fault
abbrev pub told : Result Operand MapFaultKind → Computed
told (Ok x) = Ok (operand_label x)
told (Err kind) = Err kind

-- a result from a label, or the fault
abbrev pub bound : Computed → (Label → Computed) → Computed
bound (Ok x) f = f x
bound (Err kind) f = Err kind

-- what an evaluation comes to was computed, with its steps, up to 2^64 - 1
pub record IsJudged (judged : Judged) (a : Evaluation) : Type 0 where
  pub value : computed_of judged.value ≡ told a.outcome
  pub steps : judged.steps ≡ min a.steps (2 ^ 64 - 1)

-- the same of an expression over the value at the place `own` of the innermost frame, whose label is that of a scalar
abbrev pub JudgesTerm : Term → Scalar → Judged → Type 0
JudgesTerm e x judged = (own : ℕ) (levels : Levels) (v : Value) → is_over_own own e ≡ true →
    value_at levels 0 own ≡ Some v → label_of v ≡ scalar_label x → IsJudged judged (evaluation e levels)

abbrev pub truth_if : Option Bool → Option Computed
truth_if None = None
truth_if (Some b) = Some (truth b)

-- what an operator comes to by its left side alone
abbrev pub left_alone : Infix → Computed → Option Computed
left_alone op (Ok x) = truth_if (settled op (truth_of x))
left_alone op (Err kind) = Some (Err kind)

abbrev pub computed_if : Option (Result Scalar MapFaultKind) → Option Computed
computed_if None = None
computed_if (Some value) = Some (computed_of value)

abbrev pub SettlesBy : Infix → Result Scalar MapFaultKind → Option (Result Scalar MapFaultKind) → Type 0
SettlesBy op left value = computed_if value ≡ left_alone op (computed_of left)

-- what it comes to by both sides, of which the left one doesn't settle it
pub record JoinsBoth (op : Infix) (left right whole : Judged) : Type 0 where
  pub value : computed_of whole.value
      ≡ bound (computed_of left.value) (λ x. bound (computed_of right.value) (combined op x))
  pub steps : whole.steps ≡ min (1 + (left.steps + right.steps)) (2 ^ 64 - 1)

-- a truth that is false
abbrev pub is_untrue : Result Bool MapFaultKind → Bool
is_untrue (Ok holds) = not holds
is_untrue (Err kind) = false

-- a constraint that comes to this is 0
abbrev pub is_failed : Computed → Bool
is_failed (Ok x) = is_untrue (truth_of x)
is_failed (Err kind) = false
