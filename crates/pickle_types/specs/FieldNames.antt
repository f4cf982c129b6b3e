-- The names of a type's fields, and their places.
use Rattle.std.specs.Prelude.{◌≡◌, ℕ, suc, ◌≤◌, List, [], ◌∷◌, length, Option, Some, None, option_map, slice_get, if◌then◌else◌}
use Rattle.std.specs.Ordering.{nat_cmp}
use Rattle.std.specs.Map.{lookup}
use Rattle.std.specs.BTreeMap.{is_at}
use Rattle.pickle_types.specs.declared.node.Part.{Part}
use Rattle.pickle_types.specs.declared.node.Shape.{Shape}
use Rattle.pickle_types.specs.declared.node.Shape.TheVariants as shape
use Rattle.pickle_types.specs.declared.node.Node.{Node}
use Rattle.pickle_types.specs.declared.places_by_name.PlacesByName.{PlacesByName}
use Rattle.pickle_types.specs.Table.{name_of}
use Rattle.pickle_types.specs.Scopes.{is_named}
use Rattle.pickle_types.specs.PlacesByName.{place_at}
use Rattle.pickle_types.specs.Built.{names_in}

-- the place of the first field of a name
abbrev pub place_named : List ℕ → List (Option (List ℕ)) → Option ℕ
place_named word [] = None
place_named word (n ∷ ns) = if is_named n word then Some 0 else option_map suc (place_named word ns)

-- the place of each name is stored
pub record ArePlaced (names : List (Option (List ℕ))) (places : PlacesByName) : Type 0 where
  pub kept : (word : List ℕ) → place_at places word ≡ place_named word names

abbrev pub part_names : List Part → List (Option (List ℕ))
part_names [] = []
part_names (p ∷ ps) = name_of p.name ∷ part_names ps

-- the names of the fields or alternatives of a shape
abbrev pub shape_names : Shape → List (Option (List ℕ))
shape_names (shape.Integer type) = []
shape_names (shape.Offset type unit) = []
shape_names shape.String = []
shape_names (shape.Array element bound) = []
shape_names (shape.Struct name pinned fields) = names_in fields.items
shape_names (shape.Integral name number fields) = part_names fields.items
shape_names (shape.Union name alternatives) = part_names alternatives.items

-- no two fields have the same name: the place of each field is that of its name
pub record AreDistinct (names : List (Option (List ℕ))) : Type 0 where
  pub first : (i : ℕ) (word : List ℕ) → slice_get names i ≡ Some (Some word) → place_named word names ≡ Some i

-- where the places of a node's fields are stored, no two of the fields have the same name
pub record AreIndexed {P : Type 0} (nodes : List Node) (places : List (ℕ × P)) : Type 0 where
  pub some : (i : ℕ) (node : Node) (kept : P) → slice_get nodes i ≡ Some node →
      lookup (is_at (nat_cmp i)) places ≡ Some kept → AreDistinct (shape_names node.shape)
  pub past : (i : ℕ) → length nodes ≤ i → lookup (is_at (nat_cmp i)) places ≡ None
