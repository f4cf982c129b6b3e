-- How a clause of a run ends: with its outcome after all its steps, or without a step left.
use Rattle.std.specs.Prelude.{◌≡◌, ℕ, ◌+◌, ◌<◌, ℤ, pos, negsuc, Result, Ok, Err}
use Rattle.pickle_map.specs.declared.mapper.stop.Stop.{Stop}
use Rattle.pickle_map.specs.declared.mapper.stop.Stop.TheVariants as stop
use Rattle.pickle_evaluation.specs.declared.content.Content.{Content}
use Rattle.pickle_meaning.specs.Clauses.{FaultAt}
use Rattle.pickle_evaluation.specs.Contents.{IsHeld}
use Rattle.pickle_meaning.specs.Evaluation.{Operand, operand_label, Evaluation}
use Rattle.std.specs.Prelude.{Option, Some, None}

-- a number that is not negative
abbrev pub natural : ℤ → Option ℕ
natural (pos n) = Some n
natural (negsuc n) = None

-- an outcome, or its fault and place
abbrev pub Ends : {A : Type 0} → Result A Stop → Result A FaultAt → Type 0
Ends (Ok x) o = o ≡ Ok x
Ends (Err (stop.Fault kind place)) o = o ≡ Err (kind, place)
Ends (Err stop.Limit) o = ⊥
Ends (Err stop.Device) o = ⊥
Ends (Err stop.Memory) o = ⊥

abbrev pub Settles : {A : Type 0} → (limit before after : ℕ) → Result A Stop → Result A FaultAt → (steps : ℕ) → Type 0
Settles limit before after (Ok x) o steps = (o ≡ Ok x) × (after ≡ before + steps)
Settles limit before after (Err (stop.Fault kind place)) o steps = (o ≡ Err (kind, place)) × (after ≡ before + steps)
Settles limit before after (Err stop.Limit) o steps = (after ≡ limit) × (limit < before + steps)
Settles limit before after (Err stop.Device) o steps = ⊥
Settles limit before after (Err stop.Memory) o steps = ⊥

-- what matters to an operator about an expression's value, or its fault at `place`
abbrev pub Sees : (limit before after place : ℕ) → Result Content Stop → Evaluation → Type 0
Sees limit before after place (Ok content) a =
    (x : Operand) × (a.outcome ≡ Ok x) × IsHeld content (operand_label x) × (after ≡ before + a.steps)
Sees limit before after place (Err (stop.Fault kind at)) a =
    (a.outcome ≡ Err kind) × (at ≡ place) × (after ≡ before + a.steps)
Sees limit before after place (Err stop.Limit) a = (after ≡ limit) × (limit < before + a.steps)
Sees limit before after place (Err stop.Device) a = ⊥
Sees limit before after place (Err stop.Memory) a = ⊥
