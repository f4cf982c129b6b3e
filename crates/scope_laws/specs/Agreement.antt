-- Frames that agree on what is visible.
use Rattle.std.specs.Prelude.{◌≡◌, ℕ, ◌-◌, ◌<◌, List, Some}
use Rattle.pickle_types.specs.Scopes.{Visible, resolve}
use Rattle.pickle_meaning.specs.Values.{Levels, value_at}

-- The frame of a field, counted from the outermost of so many, is one of them. The member at the field's place there is
-- the same in both, or there is none in either.
pub record Agrees (count : ℕ) (levels levels' : Levels) (field : Visible) : Type 0 where
  pub inside : field.level < count
  pub same : value_at levels (count - 1 - field.level) field.place
      ≡ value_at levels' (count - 1 - field.level) field.place

-- Each name leads to the same value in both. All else may differ: values that no name leads to, and further frames.
abbrev pub LevelsAgree : (seen : List Visible) → (count : ℕ) → Levels → Levels → Type 0
LevelsAgree seen count levels levels' =
    (word : List ℕ) (field : Visible) → resolve word seen ≡ Some field → Agrees count levels levels' field
