-- What each member has of its value, each part has.
use Rattle.std.proofs.Common.{◌≡◌, ℕ, Bool, true, false, List, [], ◌∷◌, Option, Some, None, refl, subst}
use Rattle.pickle_meaning.specs.Values.{Value, member_at, members_of}
use Rattle.command_line.specs.declared.path.Path.{Path}
use Rattle.command_line.specs.declared.path.Step.{Step}
use Rattle.command_line.specs.declared.path.Step.TheVariants.{Field, Place, Element}
use Rattle.poke_batch.specs.PathParts.{member_if, member_there, step_to, part_from, part_at}

pub same_value : (value part : Value) → Some value ≡ Some part → value ≡ part
same_value value part e = cc

nothing_found : (part : Value) → None ≡ Some part → ⊥
nothing_found part e = cc

module _ (P : Value → Type 0)
    (keeps : (value part : Value) (place : ℕ) → P value → member_at (members_of value) place ≡ Some part → P part) where
  there_keeps : (value part : Value) (found : Option ℕ) → P value → member_there value found ≡ Some part → P part
  there_keeps value part None h e = absurd (nothing_found part e)
  there_keeps value part (Some place) h e = keeps value part place h e

  if_keeps : (value part : Value) (is : Bool) (place : ℕ) → P value →
      member_if is (member_at (members_of value) place) ≡ Some part → P part
  if_keeps value part true place h e = keeps value part place h e
  if_keeps value part false place h e = absurd (nothing_found part e)

  step_keeps : (step : Step) (value part : Value) → P value → step_to step value ≡ Some part → P part
  step_keeps (Field name) value part h e = there_keeps value part _ h e
  step_keeps (Place place) value part h e = if_keeps value part _ place h e
  step_keeps (Element place) value part h e = if_keeps value part _ place h e

  found_keeps : (steps : List Step) (found : Option Value) (part : Value) →
      ((value : Value) → found ≡ Some value → P value) → part_from steps found ≡ Some part → P part
  found_keeps [] found part h e = h part e
  found_keeps (step ∷ steps) None part h e = found_keeps steps None part h e
  found_keeps (step ∷ steps) (Some value) part h e =
      found_keeps steps (step_to step value) part (λ u is. step_keeps step value u (h value refl) is) e

  pub part_keeps : (path : Option Path) (value part : Value) → P value → part_at path value ≡ Some part → P part
  part_keeps None value part h e = subst P (same_value value part e) h
  part_keeps (Some path) value part h e =
      found_keeps path.steps.items (Some value) part (λ u is. subst P (same_value value u is) h) e
