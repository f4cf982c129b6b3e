-- The nodes of the parts of a type, and the node of `char`.
use Rattle.std.specs.Prelude.{ℕ, List, Option, Some, None, slice_get, codes}
use Rattle.std.specs.Option.{option_map}
use Rattle.pickle_types.specs.declared.node.Field.{Field}
use Rattle.pickle_types.specs.declared.node.Part.{Part}
use Rattle.pickle_types.specs.declared.node.Shape.{Shape}
use Rattle.pickle_types.specs.declared.node.Shape.TheVariants as shape
use Rattle.pickle_types.specs.declared.node.Node.{Node}
use Rattle.pickle_types.specs.declared.table.Table.{Table}
use Rattle.pickle_types.specs.DeclaredNodes.{node_called}

-- the node under the first entry of the name `char`
abbrev pub char_node_of : Table → Option ℕ
char_node_of t = node_called t.names (codes "char")

-- the node of an array's element, of the field of that number, or of a union's alternative of that number
abbrev pub shape_part : Shape → (number : ℕ) → Option ℕ
shape_part (shape.Integer type) number = None
shape_part (shape.Offset type unit) number = None
shape_part shape.String number = None
shape_part (shape.Array element bound) number = Some element
shape_part (shape.Struct name pinned fields) number = option_map (λ (f : Field). f.node) (slice_get fields.items number)
shape_part (shape.Integral name type fields) number = option_map (λ (p : Part). p.node) (slice_get fields.items number)
shape_part (shape.Union name alternatives) number =
    option_map (λ (p : Part). p.node) (slice_get alternatives.items number)

abbrev pub found_part : Option Node → (number : ℕ) → Option ℕ
found_part None number = None
found_part (Some node) number = shape_part node.shape number

-- the same of the node at a place
abbrev pub node_part : List Node → (of number : ℕ) → Option ℕ
node_part nodes of number = found_part (slice_get nodes of) number
