-- Paths to the parts of a value.
use Rattle.std.specs.Prelude.{◌≡◌, ◌<◌, ◌^◌, ◌==◌, ◌||◌, ℕ, Bool, true, false, List, [], ◌∷◌, ◌++◌, map, codes, decimal}
use Rattle.std.specs.Char.{is_ascii_digit, is_ascii_alphanumeric}
use Rattle.command_line.specs.declared.path.Step.{Step}
use Rattle.command_line.specs.declared.path.Step.TheVariants.{Field, Place, Element}
use Rattle.text_output.specs.Brackets.{in_brackets}

-- a step from a value to one of its parts: a field by its name or, if it has none, by its place, or an element
pub data PathStep : Type 0 where
  ToField : (name : List ℕ) → PathStep
  ToNameless : (place : ℕ) → PathStep
  ToElement : (place : ℕ) → PathStep

-- the step that a stored one is
abbrev pub step_of : Step → PathStep
step_of (Field name) = ToField name.items
step_of (Place place) = ToNameless place
step_of (Element place) = ToElement place

abbrev pub steps_of : List Step → List PathStep
steps_of steps = map step_of steps

-- a letter, a digit or `_`
abbrev pub is_name_byte : ℕ → Bool
is_name_byte byte = is_ascii_alphanumeric byte || (byte == 95)

abbrev pub AreNameBytes : List ℕ → Type 0
AreNameBytes [] = Unit {0}
AreNameBytes (byte ∷ bytes) = (is_name_byte byte ≡ true) × AreNameBytes bytes

-- letters, digits and `_`, at least one, and the first isn't a digit
abbrev pub IsName : List ℕ → Type 0
IsName [] = ⊥
IsName (byte ∷ bytes) = (is_ascii_digit byte ≡ false) × AreNameBytes (byte ∷ bytes)

-- a field has a name, and a place is below 2^64
abbrev pub IsStep : PathStep → Type 0
IsStep (ToField name) = IsName name
IsStep (ToNameless place) = place < 2 ^ 64
IsStep (ToElement place) = place < 2 ^ 64

abbrev pub AreSteps : List PathStep → Type 0
AreSteps [] = Unit {0}
AreSteps (step ∷ steps) = IsStep step × AreSteps steps

abbrev pub step_text : PathStep → List ℕ
step_text (ToField name) = codes "." ++ name
step_text (ToNameless place) = codes "." ++ decimal place
step_text (ToElement place) = in_brackets place

abbrev pub steps_text : List PathStep → List ℕ
steps_text [] = []
steps_text (step ∷ steps) = step_text step ++ steps_text steps

-- the path to the value itself is a dot
abbrev pub path_text : List PathStep → List ℕ
path_text [] = codes "."
path_text (step ∷ steps) = steps_text (step ∷ steps)

-- a text is that of a step, and of some steps
abbrev pub IsStepText : List ℕ → PathStep → Type 0
IsStepText text step = IsStep step × (step_text step ≡ text)

abbrev pub AreStepsText : List ℕ → List PathStep → Type 0
AreStepsText text steps = AreSteps steps × (steps_text steps ≡ text)

-- a text is the path of these steps
abbrev pub IsPath : List ℕ → List PathStep → Type 0
IsPath text steps = AreSteps steps × (path_text steps ≡ text)

-- a path has one reading
abbrev pub HasOnePath : Type 0
HasOnePath = (text : List ℕ) (a b : List PathStep) → IsPath text a → IsPath text b → a ≡ b
