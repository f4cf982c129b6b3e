-- The types of a table on the path to a list: structs, and at its end an array.
use Rattle.std.proofs.Common.{◌≡◌, ◌∙◌, ℕ, ◌<◌, length, get_or, Bool, true, false, ◌&&◌, List, [], ◌∷◌, refl, sym, ap}
use Rattle.std.proofs.lemmas.Bool.{false≢true}
use Rattle.std.specs.Prelude.{Option, Vec}
use Rattle.std.specs.declared.alloc.Global.{Global}
use Rattle.pickle_types.specs.declared.name.Name.{Name}
use Rattle.pickle_types.specs.declared.node.Extent.{Extent as Bound}
use Rattle.pickle_types.specs.declared.node.Field.{Field}
use Rattle.pickle_types.specs.declared.node.Node.{Node}
use Rattle.pickle_types.specs.declared.node.Shape.{Shape}
use Rattle.pickle_types.specs.declared.node.Shape.TheVariants as shape
use Rattle.pickle_types.specs.Types.{PokeType, IntegerOf, OffsetOf, StringOf, ArrayOf, StructOf, IntegralOf, UnionOf}
use Rattle.pickle_types.specs.Table.{IsTable, open_fields, open_shape, type_of}
use Rattle.pickle_map.proofs.Shapes.{opened_as}
use Rattle.list_laws.specs.Paths.{Path, is_last, is_last_in, is_list, is_list_in, is_open, is_open_in}

module _ (nodes : List Node) (table : IsTable nodes) (at : ℕ) (inside : at < length nodes) (other : Node) where
  same_list : (path : Path) (s : Shape) → (get_or nodes at other).shape ≡ s → is_list (type_of nodes at) path ≡ true →
      is_list (open_shape (type_of nodes) s) path ≡ true
  same_list path s is list =
      sym (ap (λ (ty : PokeType). is_list ty path) (opened_as nodes table at inside other s is)) ∙ list

  no_array : (s : Shape) → (get_or nodes at other).shape ≡ s → is_list (type_of nodes at) [] ≡ true
      → ((element : ℕ) (bound : Bound) → (get_or nodes at other).shape ≡ shape.Array element bound → ⊥) → ⊥
  no_array (shape.Integer number) is list never = false≢true (same_list [] _ is list)
  no_array (shape.Offset number unit) is list never = false≢true (same_list [] _ is list)
  no_array shape.String is list never = false≢true (same_list [] _ is list)
  no_array (shape.Array element bound) is list never = never element bound is
  no_array (shape.Struct name pinned fields) is list never = false≢true (same_list [] _ is list)
  no_array (shape.Integral name number fields) is list never = false≢true (same_list [] _ is list)
  no_array (shape.Union name alternatives) is list never = false≢true (same_list [] _ is list)

  -- at the end of a path is an array
  pub list_is_array : is_list (type_of nodes at) [] ≡ true
      → ((element : ℕ) (bound : Bound) → (get_or nodes at other).shape ≡ shape.Array element bound → ⊥) → ⊥
  list_is_array list never = no_array (get_or nodes at other).shape refl list never

  no_struct : (place : ℕ) (path : Path) (s : Shape) → (get_or nodes at other).shape ≡ s
      → is_list (type_of nodes at) (place ∷ path) ≡ true
      → ((name : Option Name) (pinned : Bool) (fields : Vec Field Global) →
      (get_or nodes at other).shape ≡ shape.Struct name pinned fields → ⊥) → ⊥
  no_struct place path (shape.Integer number) is list never = false≢true (same_list (place ∷ path) _ is list)
  no_struct place path (shape.Offset number unit) is list never = false≢true (same_list (place ∷ path) _ is list)
  no_struct place path shape.String is list never = false≢true (same_list (place ∷ path) _ is list)
  no_struct place path (shape.Array element bound) is list never = false≢true (same_list (place ∷ path) _ is list)
  no_struct place path (shape.Struct name pinned fields) is list never = never name pinned fields is
  no_struct place path (shape.Integral name number fields) is list never =
      false≢true (same_list (place ∷ path) _ is list)
  no_struct place path (shape.Union name alternatives) is list never = false≢true (same_list (place ∷ path) _ is list)

  -- before the end it leads through structs
  pub list_is_struct : (place : ℕ) (path : Path) → is_list (type_of nodes at) (place ∷ path) ≡ true
      → ((name : Option Name) (pinned : Bool) (fields : Vec Field Global) →
      (get_or nodes at other).shape ≡ shape.Struct name pinned fields → ⊥) → ⊥
  list_is_struct place path list never = no_struct place path (get_or nodes at other).shape refl list never

  -- and through their fields
  pub struct_in : (name : Option Name) (pinned : Bool) (fields : Vec Field Global) (place : ℕ) (path : Path)
      → (get_or nodes at other).shape ≡ shape.Struct name pinned fields
      → is_list (type_of nodes at) (place ∷ path) ≡ true
      → is_list_in (open_fields (type_of nodes) fields.items) place path ≡ true
  struct_in name pinned fields place path is list = same_list (place ∷ path) (shape.Struct name pinned fields) is list

  pub open_in : (name : Option Name) (pinned : Bool) (fields : Vec Field Global) (place : ℕ) (path : Path)
      → (get_or nodes at other).shape ≡ shape.Struct name pinned fields
      → is_open (type_of nodes at) (place ∷ path) ≡ is_open_in (open_fields (type_of nodes) fields.items) place path
  open_in name pinned fields place path is =
      ap (λ (ty : PokeType). is_open ty (place ∷ path))
      (opened_as nodes table at inside other (shape.Struct name pinned fields) is)

  pub last_in : (name : Option Name) (pinned : Bool) (fields : Vec Field Global) (place : ℕ) (path : Path)
      → (get_or nodes at other).shape ≡ shape.Struct name pinned fields
      → is_last (type_of nodes at) (place ∷ path) ≡ is_last_in (open_fields (type_of nodes) fields.items) place path
  last_in name pinned fields place path is =
      ap (λ (ty : PokeType). is_last ty (place ∷ path))
      (opened_as nodes table at inside other (shape.Struct name pinned fields) is)

-- the end of a path is last
pub end_is_last : (ty : PokeType) → is_last ty [] ≡ true
end_is_last (IntegerOf type) = refl
end_is_last (OffsetOf type unit) = refl
end_is_last StringOf = refl
end_is_last (ArrayOf element bound) = refl
end_is_last (StructOf name pinned fs) = refl
end_is_last (IntegralOf name type fs) = refl
end_is_last (UnionOf name alternatives) = refl

pub and_all : (a b c : Bool) → (a && (b && c)) ≡ ((a && b) && c)
and_all true b c = refl
and_all false b c = refl

pub and_last : (a : Bool) → (a && true) ≡ a
and_last true = refl
and_last false = refl
