-- The numbers of the types of a table have 1 to 64 bits.
use Rattle.std.proofs.Common.{◌≡◌, ℕ, zero, suc, List, [], ◌∷◌, Option, Some, None, refl}
use Rattle.std.specs.Prelude.{slice_get}
use Rattle.pickle_types.specs.declared.node.Field.{Field}
use Rattle.pickle_types.specs.declared.node.Part.{Part}
use Rattle.pickle_types.specs.declared.node.Shape.{Shape}
use Rattle.pickle_types.specs.declared.node.Shape.TheVariants as shape
use Rattle.pickle_types.specs.declared.node.Node.{Node}
use Rattle.pickle_types.specs.Types.{PokeType}
use Rattle.pickle_types.specs.Table.{open_fields, open_parts, open_shape, open_found, type_at, type_of, NamesBelow}
use Rattle.mapping_plans.specs.Widths.{HasWidths, HaveWidths, PartsHaveWidths}

module _ (at : ℕ → PokeType) (widths : (i : ℕ) → HasWidths (at i)) where
  fields_widths : (fields : List Field) → HaveWidths (open_fields at fields)
  unfolding HasWidths
  fields_widths [] = tt
  fields_widths (f ∷ rest) = (widths f.node, fields_widths rest)

  parts_widths : (parts : List Part) → PartsHaveWidths (open_parts at parts)
  unfolding HasWidths
  parts_widths [] = tt
  parts_widths (p ∷ rest) = (widths p.node, parts_widths rest)

  shape_widths : (i : ℕ) (s : Shape) → NamesBelow i s → HasWidths (open_shape at s)
  unfolding HasWidths
  shape_widths i (shape.Integer type) h = h
  shape_widths i (shape.Offset type unit) h = h
  shape_widths i shape.String h = tt
  shape_widths i (shape.Array element bound) h = widths element
  shape_widths i (shape.Struct name pinned fields) h = fields_widths fields.items
  shape_widths i (shape.Integral name number fields) h = (h.0, parts_widths fields.items)
  shape_widths i (shape.Union name alternatives) h = parts_widths alternatives.items

  found_widths : (i : ℕ) (o : Option Node) → ((node : Node) → o ≡ Some node → NamesBelow i node.shape) →
      HasWidths (open_found at o)
  unfolding HasWidths
  found_widths i None h = tt
  found_widths i (Some node) h = shape_widths i node.shape (h node refl)

at_widths : (nodes : List Node) → ((i : ℕ) (node : Node) → slice_get nodes i ≡ Some node → NamesBelow i node.shape) →
    (d i : ℕ) → HasWidths (type_at nodes d i)
unfolding type_at HasWidths
at_widths nodes h zero i = tt
at_widths nodes h (suc d) i = found_widths (type_at nodes d) (at_widths nodes h d) i (slice_get nodes i) (h i)

pub table_widths : (nodes : List Node) →
    ((i : ℕ) (node : Node) → slice_get nodes i ≡ Some node → NamesBelow i node.shape) →
    (i : ℕ) → HasWidths (type_of nodes i)
unfolding type_of
table_widths nodes h i = at_widths nodes h (suc i) i
