-- The path of a part of a value: the steps that lead to it.
use Rattle.std.specs.Prelude.{ℕ, List, [], ◌∷◌, ◌++◌, Some, None, codes, decimal}
use Rattle.pickle_meaning.specs.Values.{Naming, Label, ArrayLabel}
use Rattle.value_store.specs.Labels.{member_name}
use Rattle.text_output.specs.Brackets.{in_brackets}

-- the step to a field or an alternative: its name or, if it has none, its place among the declared fields, from 0
abbrev pub field_step : Naming → (place : ℕ) → List ℕ
field_step None place = codes "." ++ decimal place
field_step (Some name) place = codes "." ++ name

-- the step from a value to its part at a place; that to an element is `[i]`
abbrev pub step_text : Label → (place : ℕ) → List ℕ
step_text ArrayLabel place = in_brackets place
step_text label place = field_step (member_name label place) place

-- the path of these steps: a dot for the value itself
abbrev pub path_text : (steps : List ℕ) → List ℕ
path_text [] = codes "."
path_text (byte ∷ steps) = byte ∷ steps
