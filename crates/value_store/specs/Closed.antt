-- The innermost open value, closed.
use Rattle.std.specs.Prelude.{ℕ, [], ◌∷◌, Some}
use Rattle.pickle_meaning.specs.Means.{value_of}
use Rattle.pickle_meaning.specs.Values.{Label, StructLabel, UnionLabel, Levels, pushed, outer_of}
use Rattle.value_store.specs.Names.{Names, title_at, names_at, name_at}

-- the label of a struct of the type at an index
abbrev pub struct_label : Names → (of : ℕ) → Label
struct_label names of = StructLabel (title_at names of) (names_at names of)

-- the label of a union of the type at an index, whose alternative number `taken` matched
abbrev pub union_label : Names → (of taken : ℕ) → Label
union_label names of taken = UnionLabel (title_at names of) taken (name_at names of taken)

-- the innermost value is closed: the frame around it has one more member
abbrev pub closed : Label → (start end : ℕ) → Levels → Levels
closed label start end levels = pushed (outer_of levels) (Some (value_of label start end levels))

-- the innermost frame after all its members became one value, which takes their place
abbrev pub placed : Label → (start end : ℕ) → Levels → Levels
placed label start end levels = (Some (value_of label start end levels) ∷ []) ∷ outer_of levels
