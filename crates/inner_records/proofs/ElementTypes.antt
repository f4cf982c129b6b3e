-- Along the fields of structs to an array: each leads to a list whose elements are of the same type.
use Rattle.std.proofs.Common.{◌≡◌, ◌∙◌, ℕ, zero, suc, ◌<◌, true, List, [], ◌∷◌, Option, length, get_or, refl, sym, ap, subst, arith}
use Rattle.std.proofs.lemmas.Bool.{false≢true}
use Rattle.std.proofs.lemmas.List.Elements.{All-get_or}
use Rattle.std.specs.Prelude.{Bool, Vec}
use Rattle.std.specs.declared.alloc.Global.{Global}
use Rattle.inner_records.specs.Find.{element_type, element_type_in}
use Rattle.inner_records.proofs.Finding.{fields_below}
use Rattle.list_laws.specs.Paths.{Path, is_list, is_list_in}
use Rattle.pickle_map.proofs.Shapes.{below_as, opened_as}
use Rattle.pickle_types.specs.Table.{IsTable, open_fields, open_shape, type_of}
use Rattle.pickle_types.specs.Types.{PokeType}
use Rattle.pickle_types.specs.declared.name.Name.{Name}
use Rattle.pickle_types.specs.declared.node.Extent.{Extent as Bound}
use Rattle.pickle_types.specs.declared.node.Field.{Field}
use Rattle.pickle_types.specs.declared.node.Node.{Node}
use Rattle.pickle_types.specs.declared.node.Shape.TheVariants as shape

module _ (at : ℕ → PokeType) (path : Path) where
  -- a path leads through a field that is there
  pub place_inside : (fields : List Field) (place : ℕ) → is_list_in (open_fields at fields) place path ≡ true →
      place < length fields
  place_inside [] place list = absurd (false≢true list)
  place_inside (field ∷ fields) zero list = omega arith
  place_inside (field ∷ fields) (suc place) list = let h = place_inside fields place list in omega (arith, h)

  -- and on from its type
  pub list_at_field : (fields : List Field) (place : ℕ) (other : Field) → place < length fields →
      is_list_in (open_fields at fields) place path ≡ is_list (at (get_or fields place other).node) path
  list_at_field [] place other inside = absurd (omega (arith, inside))
  list_at_field (field ∷ fields) zero other inside = refl
  list_at_field (field ∷ fields) (suc place) other inside =
      list_at_field fields place other (omega (arith, inside))

  pub element_at_field : (whole : PokeType) (fields : List Field) (place : ℕ) (other : Field) → place < length fields →
      element_type_in whole (open_fields at fields) place path
      ≡ element_type (at (get_or fields place other).node) path
  element_at_field whole [] place other inside = absurd (omega (arith, inside))
  element_at_field whole (field ∷ fields) zero other inside = refl
  element_at_field whole (field ∷ fields) (suc place) other inside =
      element_at_field whole fields place other (omega (arith, inside))

module _ (nodes : List Node) (table : IsTable nodes) (at : ℕ) (inside : at < length nodes) (other : Node) where
  module _ (element : ℕ) (bound : Bound) (is : (get_or nodes at other).shape ≡ shape.Array element bound) where
    -- the type of an array's elements
    pub array_element : (path : Path) → type_of nodes element ≡ element_type (type_of nodes at) path
    array_element path =
        sym (ap (λ (ty : PokeType). element_type ty path) (opened_as nodes table at inside other _ is))

    pub element_inside : element < length nodes
    element_inside = let below = below_as nodes table at inside other _ is in omega (arith, below, inside)

  module _ (name : Option Name) (pinned : Bool) (fields : Vec Field Global) (now : List Field)
      (is : (get_or nodes at other).shape ≡ shape.Struct name pinned fields) (same : now ≡ fields.items) (place : ℕ)
      (path : Path) (list : is_list (type_of nodes at) (place ∷ path) ≡ true) where
    list_in : is_list_in (open_fields (type_of nodes) now) place path ≡ true
    list_in =
        ap (λ (items : List Field). is_list_in (open_fields (type_of nodes) items) place path) same
        ∙ sym (ap (λ (ty : PokeType). is_list ty (place ∷ path)) (opened_as nodes table at inside other _ is))
        ∙ list

    -- the next field is there
    pub next_inside : place < length now
    next_inside = place_inside (type_of nodes) path now place list_in

    -- with a type of the table
    pub next_node : (field : Field) → field ≡ get_or now place field → field.node < length nodes
    next_node field read =
        subst (λ (f : Field). f.node < length nodes) (sym read)
        (All-get_or (λ (f : Field). f.node < length nodes) now place field next_inside
        (fields_below nodes table at inside other name pinned fields now is same))

    -- and leads on to the list
    pub next_list : (field : Field) → field ≡ get_or now place field → is_list (type_of nodes field.node) path ≡ true
    next_list field read =
        ap (λ (f : Field). is_list (type_of nodes f.node) path) read
        ∙ sym (list_at_field (type_of nodes) path now place field next_inside) ∙ list_in

    pub next_element : (field : Field) → field ≡ get_or now place field →
        element_type (type_of nodes at) (place ∷ path) ≡ element_type (type_of nodes field.node) path
    next_element field read =
        ap (λ (ty : PokeType). element_type ty (place ∷ path)) (opened_as nodes table at inside other _ is)
        ∙ ap (λ (items : List Field).
        element_type_in (open_shape (type_of nodes) (shape.Struct name pinned fields))
        (open_fields (type_of nodes) items) place path) (sym same)
        ∙ element_at_field (type_of nodes) path (open_shape (type_of nodes) (shape.Struct name pinned fields)) now place
        field next_inside
        ∙ sym (ap (λ (f : Field). element_type (type_of nodes f.node) path) read)
