-- The lines of the parts that have no parts, as they are written one after the other.
use Rattle.std.specs.Prelude.{ℕ, List, ◌++◌}
use Rattle.text_output.specs.declared.style.Style.{Style}
use Rattle.pickle_meaning.specs.Values.{label_of, members_of}
use Rattle.value_text.specs.declared.typed.Typed.{Typed}
use Rattle.value_text.specs.TypedValue.{typed_shown}
use Rattle.value_text.specs.declared.print.steps.Step.{Step}
use Rattle.value_text.specs.declared.print.steps.Steps.{Steps}
use Rattle.value_text.specs.CutArrays.{limit_of}
use Rattle.value_text.specs.StyledLeaves.{styled_leaf, styled_leaves, styled_branches, start_from, more_leaf}
use Rattle.value_text.specs.Steps.{text_of, steps_of}

-- the line of the elements of an array from a place on, which are so many
abbrev pub more_leaf_at : Steps → Typed → (place left : ℕ) → List ℕ
more_leaf_at steps array place left =
    more_leaf (steps_of steps) (typed_shown array) place (start_from (typed_shown array) place) left

module _ (style : Style) where
  abbrev pub leaf_at : Steps → Typed → List ℕ
  leaf_at steps value = styled_leaf style (steps_of steps) (typed_shown value)

  abbrev pub leaves_at : Steps → Typed → List ℕ
  leaves_at steps value = styled_leaves style (steps_of steps) (typed_shown value)

  -- the lines of all parts of a value
  abbrev pub branches_at : Steps → Typed → List ℕ
  branches_at steps value =
      styled_branches style (limit_of style (label_of (typed_shown value))) (steps_of steps) (typed_shown value) 0
      (members_of (typed_shown value))

  -- the lines of a part, whose path has one more step
  abbrev pub branch_at : Steps → Step → Typed → List ℕ
  branch_at steps step part = styled_leaves style (steps_of steps ++ text_of step) (typed_shown part)
