-- The fields that an expression sees.
use Rattle.std.specs.Prelude.{ℕ, List, [], ◌∷◌, ◌++◌, Option, Some, None, Bool, false, if◌then◌else◌}
use Rattle.std.specs.Str.{bytes_eq}
use Rattle.pickle_types.specs.Types.{PokeType}

-- a visible field: its frame, counted from the outermost, its place in that frame, and its type
pub record Visible : Type 0 where
  pub name : Option (List ℕ)
  pub level : ℕ
  pub place : ℕ
  pub type : PokeType

abbrev pub is_named : Option (List ℕ) → List ℕ → Bool
is_named None word = false
is_named (Some name) word = bytes_eq name word

abbrev pub or_this : List ℕ → Visible → Option Visible → Option Visible
or_this word v (Some inner) = Some inner
or_this word v None = if is_named v.name word then Some v else None

-- the innermost field of that name: the last of the visible ones
abbrev pub resolve : List ℕ → List Visible → Option Visible
resolve word [] = None
resolve word (v ∷ vs) = or_this word v (resolve word vs)

-- the visible fields and one more
abbrev pub sees : List Visible → ℕ → ℕ → Option (List ℕ) → PokeType → List Visible
sees seen level place name t = seen ++ record { name = name; level = level; place = place; type = t } ∷ []
