-- The steps of listed paths.
use Rattle.std.specs.Prelude.{ℕ, List, [], ◌∷◌, ◌++◌, Option, Some, None, codes, decimal}
use Rattle.std.specs.List.{flat_map}
use Rattle.pickle_meaning.specs.Values.{Naming}
use Rattle.part_lists.specs.declared.route.Step.{Step}
use Rattle.part_lists.specs.declared.route.Step.TheVariants as step
use Rattle.part_lists.specs.declared.route.Route.{Route, Start, Then'}

-- to the field or alternative of a name, to a nameless one by its place, or to the elements of an array
pub data ListedStep : Type 0 where
  Named : (name : List ℕ) → ListedStep
  Placed : (place : ℕ) → ListedStep
  Elements : ListedStep

abbrev pub member_step : Naming → (place : ℕ) → ListedStep
member_step None place = Placed place
member_step (Some name) place = Named name

abbrev pub step_text : ListedStep → List ℕ
step_text (Named name) = codes "." ++ name
step_text (Placed place) = codes "." ++ decimal place
step_text Elements = codes "[*]"

abbrev pub steps_text : List ListedStep → List ℕ
steps_text = flat_map step_text

-- the path of some steps, as an argument of `--get`: a dot for the value itself
abbrev pub path_text : List ListedStep → List ℕ
path_text [] = codes "."
path_text (step ∷ steps) = steps_text (step ∷ steps)

-- the step of the code, and those of a route
abbrev pub step_of : Step → ListedStep
step_of (step.Named name) = Named name.now
step_of (step.Placed place) = Placed place
step_of step.Elements = Elements

abbrev pub steps_of : Route → List ListedStep
steps_of Start = []
steps_of (Then' p above step) = steps_of above ++ step_of step ∷ []
