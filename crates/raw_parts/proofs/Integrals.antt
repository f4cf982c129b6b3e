-- Steps that lead into an integral struct.
use Rattle.std.proofs.Common.{◌≡◌, ◌∙◌, ℕ, Bool, true, false, List, [], ◌∷◌, Option, Some, None, refl, sym, ap}
use Rattle.std.specs.Prelude.{◌||◌}
use Rattle.command_line.specs.declared.path.Step.{Step}
use Rattle.pickle_meaning.specs.Values.{Value}
use Rattle.pickle_types.specs.declared.node.Node.{Node}
use Rattle.poke_batch.specs.PathParts.{node_there, place_of, step_to}
use Rattle.raw_parts.specs.Integral.{enters_integral, is_integral}

enters_nothing : (nodes : List Node) (steps : List Step) (of : Option ℕ) → enters_integral nodes steps of None ≡ false
enters_nothing nodes [] of = refl
enters_nothing nodes (step ∷ steps) of = refl

module _ (nodes : List Node) (step : Step) (steps : List Step) {left : List Step} (of : Option ℕ) (value : Value)
    (next : left ≡ step ∷ steps) where
  -- the value is an integral struct
  pub entered : is_integral nodes of ≡ true → enters_integral nodes left of (Some value) ≡ true
  entered is =
      ap (λ (l : List Step). enters_integral nodes l of (Some value)) next
      ∙ ap (λ (b : Bool). b || enters_integral nodes steps (node_there nodes of value (place_of step value))
      (step_to step value)) is

  passed : is_integral nodes of ≡ false → enters_integral nodes left of (Some value)
      ≡ enters_integral nodes steps (node_there nodes of value (place_of step value)) (step_to step value)
  passed not_it =
      ap (λ (l : List Step). enters_integral nodes l of (Some value)) next
      ∙ ap (λ (b : Bool). b || enters_integral nodes steps (node_there nodes of value (place_of step value))
      (step_to step value)) not_it

  -- the step leads nowhere
  pub enters_none : is_integral nodes of ≡ false → None ≡ step_to step value →
      enters_integral nodes left of (Some value) ≡ false
  enters_none not_it none =
      passed not_it
      ∙ ap (enters_integral nodes steps (node_there nodes of value (place_of step value))) (sym none)
      ∙ enters_nothing nodes steps (node_there nodes of value (place_of step value))

  -- the step leads to a part
  pub further : (to : Option ℕ) (part : Value) → is_integral nodes of ≡ false → Some part ≡ step_to step value
      → to ≡ node_there nodes of value (place_of step value)
      → enters_integral nodes left of (Some value) ≡ enters_integral nodes steps to (Some part)
  further to part not_it found node =
      passed not_it
      ∙ ap (enters_integral nodes steps (node_there nodes of value (place_of step value))) (sym found)
      ∙ ap (λ (n : Option ℕ). enters_integral nodes steps n (Some part)) (sym node)
