-- The type of a table's node is made of the types of the nodes that it names.
use Rattle.std.proofs.Common.{◌≡◌, ℕ, zero, suc, ◌<◌, List, [], ◌∷◌, Option, Some, None, length, get_or, refl, sym, ap, ◌∙◌, arith}
use Rattle.std.specs.Prelude.{slice_get}
use Rattle.std.proofs.lemmas.Option.{slice_get-get_or}
use Rattle.pickle_types.specs.declared.node.Field.{Field}
use Rattle.pickle_types.specs.declared.node.Part.{Part}
use Rattle.pickle_types.specs.declared.node.Shape.{Shape}
use Rattle.pickle_types.specs.declared.node.Shape.TheVariants as shape
use Rattle.pickle_types.specs.declared.node.Node.{Node}
use Rattle.pickle_types.specs.Types.{PokeType, ArrayOf, StructOf, IntegralOf, UnionOf, Fields, NoFields, Parts, NoParts}
use Rattle.pickle_types.specs.Table.{bound_of, name_of, fields_onto, parts_onto, open_shape, open_found, type_at, type_of, FieldsBelow, PartsBelow, NamesBelow, IsTable}

module _ (at at' : ℕ → PokeType) (i : ℕ) (same : (e : ℕ) → e < i → at e ≡ at' e) where
  pub fields_same : (fs : List Field) (rest : Fields) → FieldsBelow i fs →
      fields_onto at fs rest ≡ fields_onto at' fs rest
  fields_same [] rest h = refl
  fields_same (f ∷ fs) rest h =
      let head : at f.node ≡ at' f.node = same f.node (h 0 f (omega arith)) in
      let tail = fields_same fs rest (λ k d lt. h (suc k) d (omega arith)) in
      rw (head, tail) refl

  pub parts_same : (ps : List Part) (rest : Parts) → PartsBelow i ps → parts_onto at ps rest ≡ parts_onto at' ps rest
  parts_same [] rest h = refl
  parts_same (p ∷ ps) rest h =
      let head : at p.node ≡ at' p.node = same p.node (h 0 p (omega arith)) in
      let tail = parts_same ps rest (λ k d lt. h (suc k) d (omega arith)) in
      rw (head, tail) refl

  pub shape_same : (s : Shape) → NamesBelow i s → open_shape at s ≡ open_shape at' s
  shape_same (shape.Integer type) h = refl
  shape_same (shape.Offset type unit) h = refl
  shape_same shape.String h = refl
  shape_same (shape.Array element bound) h = ap (λ t. ArrayOf t (bound_of bound)) (same element h)
  shape_same (shape.Struct name pinned fields) h =
      ap (StructOf (name_of name) pinned) (fields_same fields.items NoFields h)
  shape_same (shape.Integral name number fields) h =
      ap (IntegralOf (name_of name) number) (parts_same fields.items NoParts h.1)
  shape_same (shape.Union name alternatives) h = ap (UnionOf (name_of name)) (parts_same alternatives.items NoParts h)

module _ (nodes : List Node)
    (below : (i : ℕ) (node : Node) → slice_get nodes i ≡ Some node → NamesBelow i node.shape) where
  found_same : (at at' : ℕ → PokeType) (i : ℕ) → ((e : ℕ) → e < i → at e ≡ at' e) → (o : Option Node) →
      slice_get nodes i ≡ o → open_found at o ≡ open_found at' o
  found_same at at' i same None e = refl
  found_same at at' i same (Some node) e = shape_same at at' i same node.shape (below i node e)

  depth_same : (d d' i : ℕ) → i < d → i < d' → type_at nodes d i ≡ type_at nodes d' i
  unfolding type_at
  depth_same zero d' i h h' = absurd (omega arith)
  depth_same (suc d) zero i h h' = absurd (omega arith)
  depth_same (suc d) (suc d') i h h' =
      found_same (type_at nodes d) (type_at nodes d') i (λ e lt. depth_same d d' e (omega arith) (omega arith))
      (slice_get nodes i) refl

  -- the type of a node, by the types of the nodes that it names
  pub opens_below : (i : ℕ) (node : Node) → slice_get nodes i ≡ Some node →
      type_of nodes i ≡ open_shape (type_of nodes) node.shape
  unfolding type_of type_at
  opens_below i node e =
      ap (open_found (type_at nodes i)) e
      ∙ shape_same (type_at nodes i) (type_of nodes) i (λ e lt. depth_same i (suc e) e lt (omega arith))
      node.shape (below i node e)

pub opens : (nodes : List Node) → IsTable nodes → (i : ℕ) (node : Node) → slice_get nodes i ≡ Some node →
    type_of nodes i ≡ open_shape (type_of nodes) node.shape
opens nodes table i node e = opens_below nodes table.below i node e

pub node_at : (nodes : List Node) (i : ℕ) (node : Node) → i < length nodes → node ≡ get_or nodes i node →
    slice_get nodes i ≡ Some node
node_at nodes i node lt e = slice_get-get_or nodes i node lt ∙ ap Some (sym e)
