-- The text of the steps that lead to a part, and of what is written for it.
use Rattle.std.specs.Prelude.{ℕ, List, [], ◌++◌, Some, None}
use Rattle.value_text.specs.declared.print.steps.Step.{Step}
use Rattle.value_text.specs.declared.print.steps.Step.TheVariants.{Element, Field, Nameless}
use Rattle.value_text.specs.declared.print.steps.Steps.{Steps, Start, Then'}
use Rattle.value_text.specs.PathText.{field_step}
use Rattle.text_output.specs.Brackets.{in_brackets}

abbrev pub text_of : Step → List ℕ
text_of (Element place) = in_brackets place
text_of (Field name) = field_step (Some name.now) 0
text_of (Nameless place) = field_step None place

abbrev pub steps_of : Steps → List ℕ
steps_of Start = []
steps_of (Then' p above step) = steps_of above ++ text_of step

-- one more step
abbrev pub steps_with : Steps → Step → List ℕ
steps_with above step = steps_of above ++ text_of step
