-- The lists inside a type: where a step of a path leads, and what is an array.
use Rattle.std.proofs.Common.{◌≡◌, ◌∙◌, ◌+◌, ◌<◌, ℕ, Bool, true, false, List, [], ◌∷◌, Option, Some, None, length, get_or, refl, sym, ap, subst, arith}
use Rattle.std.proofs.lemmas.List.Elements.{All-weaker}
use Rattle.std.specs.Prelude.{All, Vec}
use Rattle.std.specs.declared.alloc.Global.{Global}
use Rattle.command_line.specs.declared.path.Step.{Step}
use Rattle.inner_records.specs.Find.{field_step, type_step}
use Rattle.list_laws.specs.Paths.{is_list}
use Rattle.pickle_map.proofs.Shapes.{below_as, opened_as}
use Rattle.pickle_types.specs.Table.{IsTable, name_of, open_fields, open_shape, type_of}
use Rattle.pickle_types.specs.Types.{PokeType}
use Rattle.pickle_types.specs.declared.name.Name.{Name}
use Rattle.pickle_types.specs.declared.node.Extent.{Extent as Bound}
use Rattle.pickle_types.specs.declared.node.Field.{Field}
use Rattle.pickle_types.specs.declared.node.Node.{Node}
use Rattle.pickle_types.specs.declared.node.Shape.{Shape}
use Rattle.pickle_types.specs.declared.node.Shape.TheVariants as shape
use Rattle.type_parts.specs.CanHave.{of_step}

module _ (at : ℕ → PokeType) (step : Step) (f : Field) (fs : List Field) (number : ℕ) where
  -- a step leads to the first of some fields
  pub field_here : (of_step step).field (name_of f.name) number ≡ true
      → field_step step (open_fields at (f ∷ fs)) number ≡ Some (number, at f.node)
  field_here is = rw is refl

  -- or to one of those after it
  pub field_later : (of_step step).field (name_of f.name) number ≡ false
      → field_step step (open_fields at (f ∷ fs)) number ≡ field_step step (open_fields at fs) (number + 1)
  field_later is = rw is refl

module _ (nodes : List Node) (table : IsTable nodes) (at : ℕ) (inside : at < length nodes) (other : Node) where
  -- what the type at a place is by its shape
  list_of : (s : Shape) → (get_or nodes at other).shape ≡ s →
      is_list (type_of nodes at) [] ≡ is_list (open_shape (type_of nodes) s) []
  list_of s is = ap (λ (ty : PokeType). is_list ty []) (opened_as nodes table at inside other s is)

  step_of : (step : Step) (s : Shape) → (get_or nodes at other).shape ≡ s →
      type_step step (type_of nodes at) ≡ type_step step (open_shape (type_of nodes) s)
  step_of step s is = ap (type_step step) (opened_as nodes table at inside other s is)

  pub array_is_list : (element : ℕ) (bound : Bound) → (get_or nodes at other).shape ≡ shape.Array element bound →
      true ≡ is_list (type_of nodes at) []
  array_is_list element bound is = sym (list_of _ is)

  no_list : (s : Shape) → (get_or nodes at other).shape ≡ s
      → ((element : ℕ) (bound : Bound) → (get_or nodes at other).shape ≡ shape.Array element bound → ⊥)
      → false ≡ is_list (type_of nodes at) []
  no_list (shape.Integer number) is other_shape = sym (list_of _ is)
  no_list (shape.Offset number unit) is other_shape = sym (list_of _ is)
  no_list shape.String is other_shape = sym (list_of _ is)
  no_list (shape.Array element bound) is other_shape = absurd (other_shape element bound is)
  no_list (shape.Struct name pinned fields) is other_shape = sym (list_of _ is)
  no_list (shape.Integral name number fields) is other_shape = sym (list_of _ is)
  no_list (shape.Union name alternatives) is other_shape = sym (list_of _ is)

  -- what isn't an array is no list
  pub other_is_none : ((element : ℕ) (bound : Bound) → (get_or nodes at other).shape ≡ shape.Array element bound → ⊥)
      → false ≡ is_list (type_of nodes at) []
  other_is_none other_shape = no_list (get_or nodes at other).shape refl other_shape

  -- the fields of a struct have places before it
  pub fields_below : (name : Option Name) (pinned : Bool) (fields : Vec Field Global) (now : List Field)
      → (get_or nodes at other).shape ≡ shape.Struct name pinned fields → now ≡ fields.items
      → All (λ (field : Field). field.node < length nodes) now
  fields_below name pinned fields now is e =
      let below = below_as nodes table at inside other _ is in
      subst (λ (items : List Field). All (λ (field : Field). field.node < length nodes) items) (sym e)
      (All-weaker (λ (field : Field). field.node < at) (λ (field : Field). field.node < length nodes)
      (λ field less. omega (arith, less, inside)) fields.items below)

  pub struct_step : (step : Step) (name : Option Name) (pinned : Bool) (fields : Vec Field Global) (now : List Field)
      → (get_or nodes at other).shape ≡ shape.Struct name pinned fields → now ≡ fields.items
      → field_step step (open_fields (type_of nodes) now) 0 ≡ type_step step (type_of nodes at)
  struct_step step name pinned fields now is e =
      ap (λ (items : List Field). field_step step (open_fields (type_of nodes) items) 0) e ∙ sym (step_of step _ is)

  no_step : (step : Step) (s : Shape) → (get_or nodes at other).shape ≡ s
      → ((name : Option Name) (pinned : Bool) (fields : Vec Field Global) →
      (get_or nodes at other).shape ≡ shape.Struct name pinned fields → ⊥)
      → None ≡ type_step step (type_of nodes at)
  no_step step (shape.Integer number) is other_shape = sym (step_of step _ is)
  no_step step (shape.Offset number unit) is other_shape = sym (step_of step _ is)
  no_step step shape.String is other_shape = sym (step_of step _ is)
  no_step step (shape.Array element bound) is other_shape = sym (step_of step _ is)
  no_step step (shape.Struct name pinned fields) is other_shape = absurd (other_shape name pinned fields is)
  no_step step (shape.Integral name number fields) is other_shape = sym (step_of step _ is)
  no_step step (shape.Union name alternatives) is other_shape = sym (step_of step _ is)

  -- a step leads from structs alone
  pub other_has_no_step : (step : Step)
      → ((name : Option Name) (pinned : Bool) (fields : Vec Field Global) →
      (get_or nodes at other).shape ≡ shape.Struct name pinned fields → ⊥)
      → None ≡ type_step step (type_of nodes at)
  other_has_no_step step other_shape = no_step step (get_or nodes at other).shape refl other_shape
