-- Laws of the paths of parts.
use Rattle.std.proofs.Common.{◌≡◌, ◌≢◌, ℕ, ◌<◌, List, [], ◌∷◌, ◌++◌, length, refl, arith, length-append, codes, decimal}
use Rattle.value_store.specs.declared.value.Kind.TheVariants as kind
use Rattle.pickle_meaning.specs.Values.{Label, IntegerLabel, OffsetLabel, TextLabel, ArrayLabel, StructLabel, UnionLabel}
use Rattle.value_store.specs.Labels.{kind_of, member_name}
use Rattle.value_text.specs.declared.print.steps.Step.{Step}
use Rattle.value_text.specs.declared.print.steps.Step.TheVariants.{Element, Field, Nameless}
use Rattle.value_text.specs.PathText.{field_step, step_text, path_text}
use Rattle.value_text.specs.Steps.{text_of}
use Rattle.text_output.specs.Brackets.{in_brackets}

-- the step to a part, by the kind of the value that has it
pub step_to_element : (label : Label) (place : ℕ) → kind.Array ≡ kind_of label →
    step_text label place ≡ in_brackets place
step_to_element (IntegerLabel number type) place e = cc
step_to_element (OffsetLabel magnitude type unit) place e = cc
step_to_element (TextLabel bytes) place e = cc
step_to_element ArrayLabel place e = refl
step_to_element (StructLabel name fields) place e = cc
step_to_element (UnionLabel name index alternative) place e = cc

pub step_to_field : (label : Label) (place : ℕ) → kind_of label ≢ kind.Array →
    step_text label place ≡ field_step (member_name label place) place
step_to_field (IntegerLabel number type) place e = refl
step_to_field (OffsetLabel magnitude type unit) place e = refl
step_to_field (TextLabel bytes) place e = refl
step_to_field ArrayLabel place e = absurd (e refl)
step_to_field (StructLabel name fields) place e = refl
step_to_field (UnionLabel name index alternative) place e = refl

pub ruleset by_kind = (step_to_element, step_to_field)

step_some : (step : Step) → 0 < length (text_of step)
step_some (Element place) = omega (arith, length-append (codes "[") (decimal place ++ codes "]"))
step_some (Field name) = omega (arith, length-append (codes ".") name.now)
step_some (Nameless place) = omega (arith, length-append (codes ".") (decimal place))

-- the path of some steps is their text
pub path_is : (above : List ℕ) (step : Step) → path_text (above ++ text_of step) ≡ above ++ text_of step
path_is above step =
    some_path (above ++ text_of step) (omega (arith, length-append above (text_of step), step_some step))
  where
    some_path : (steps : List ℕ) → 0 < length steps → path_text steps ≡ steps
    some_path [] h = absurd (omega (arith, h))
    some_path (byte ∷ steps) h = refl
