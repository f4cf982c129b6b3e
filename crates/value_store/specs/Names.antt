-- The names that the types of a table give to their values.
use Rattle.std.specs.Prelude.{ℕ, zero, suc, map, List, [], Option, Some, None, slice_get, unwrap_or}
use Rattle.pickle_types.specs.declared.node.Field.{Field}
use Rattle.pickle_types.specs.declared.node.Part.{Part}
use Rattle.pickle_types.specs.declared.node.Shape.{Shape}
use Rattle.pickle_types.specs.declared.node.Shape.TheVariants as shape
use Rattle.pickle_types.specs.declared.node.Node.{Node}
use Rattle.pickle_types.specs.Table.{name_of}
use Rattle.pickle_meaning.specs.Values.{Naming}

-- the types of a table, in which names are looked up
abbrev pub Names : Type 0
Names = List Node

abbrev pub field_name : Field → Naming
field_name f = name_of f.name

abbrev pub part_name : Part → Naming
part_name p = name_of p.name

-- the name that values of a shape are printed with
abbrev pub shape_title : Shape → Naming
shape_title (shape.Integer type) = None
shape_title (shape.Offset type unit) = None
shape_title shape.String = None
shape_title (shape.Array element bound) = None
shape_title (shape.Struct name pinned fields) = name_of name
shape_title (shape.Integral name number fields) = name_of name
shape_title (shape.Union name alternatives) = name_of name

-- the names of a shape's fields or alternatives
abbrev pub shape_names : Shape → List Naming
shape_names (shape.Integer type) = []
shape_names (shape.Offset type unit) = []
shape_names shape.String = []
shape_names (shape.Array element bound) = []
shape_names (shape.Struct name pinned fields) = map field_name fields.items
shape_names (shape.Integral name number fields) = map part_name fields.items
shape_names (shape.Union name alternatives) = map part_name alternatives.items

abbrev pub found_title : Option Node → Naming
found_title None = None
found_title (Some node) = shape_title node.shape

abbrev pub found_names : Option Node → List Naming
found_names None = []
found_names (Some node) = shape_names node.shape

abbrev pub title_at : Names → ℕ → Naming
title_at names i = found_title (slice_get names i)

abbrev pub names_at : Names → ℕ → List Naming
names_at names i = found_names (slice_get names i)

abbrev pub name_at : Names → (of index : ℕ) → Naming
name_at names of index = unwrap_or (slice_get (names_at names of) index) None

-- the name of the member at a place of a union whose alternative number `taken` matched: its only member
abbrev pub alternative_name : Names → (of taken : ℕ) → ℕ → Naming
alternative_name names of taken zero = name_at names of taken
alternative_name names of taken (suc i) = None
