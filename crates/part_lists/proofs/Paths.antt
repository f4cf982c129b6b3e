-- Laws of the texts of paths.
use Rattle.std.proofs.Common.{◌≡◌, ℕ, List, [], ◌∷◌, ◌++◌, refl, sym, ◌∙◌, ap}
use Rattle.std.proofs.lemmas.List.{append-nil}
use Rattle.std.proofs.lemmas.Grind.{flat_map-append}
use Rattle.part_lists.specs.Steps.{ListedStep, step_text, steps_text, path_text}

-- the path of some steps is their text
pub path_is : (above : List ListedStep) (step : ListedStep) →
    path_text (above ++ step ∷ []) ≡ steps_text (above ++ step ∷ [])
path_is [] step = refl
path_is (first ∷ above) step = refl

-- one step more
pub steps_more : (above : List ListedStep) (step : ListedStep) →
    steps_text (above ++ step ∷ []) ≡ steps_text above ++ step_text step
steps_more above step =
    flat_map-append step_text above (step ∷ []) ∙ ap (λ s. steps_text above ++ s) (append-nil (step_text step))
