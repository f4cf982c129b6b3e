-- The lists inside a type, by paths as arguments have them.
use Rattle.std.specs.Prelude.{◌≡◌, ℕ, zero, suc, ◌+◌, true, List, [], ◌∷◌, Option, Some, None, option_map, if◌then◌else◌}
use Rattle.command_line.specs.declared.path.Path.{Path as PathWords}
use Rattle.command_line.specs.declared.path.Step.{Step}
use Rattle.inner_records.specs.declared.find.FieldPlace.{FieldPlace}
use Rattle.inner_records.specs.declared.find.InnerList.{InnerList}
use Rattle.list_laws.specs.Paths.{Path, is_list}
use Rattle.pickle_types.specs.declared.node.Node.{Node}
use Rattle.pickle_types.specs.Table.{type_of}
use Rattle.pickle_types.specs.Types.{PokeType, IntegerOf, OffsetOf, StringOf, ArrayOf, StructOf, IntegralOf, UnionOf, Fields, NoFields, FieldThen}
use Rattle.poke_batch.specs.TypeRuns.{run_type}
use Rattle.poke_batch.specs.declared.type_run.TypeRun.{TypeRun}
use Rattle.type_parts.specs.CanHave.{of_step}

-- the first field to which a step leads, from the one of a number on: its place and its type
abbrev pub field_step : Step → Fields → (number : ℕ) → Option (ℕ × PokeType)
field_step step NoFields number = None
field_step step (FieldThen name order type constraint label condition rest) number =
    if (of_step step).field name number then Some (number, type) else field_step step rest (number + 1)

-- the field of a struct to which a step leads
abbrev pub type_step : Step → PokeType → Option (ℕ × PokeType)
type_step step (IntegerOf type) = None
type_step step (OffsetOf type unit) = None
type_step step StringOf = None
type_step step (ArrayOf element bound) = None
type_step step (StructOf name pinned fields) = field_step step fields 0
type_step step (IntegralOf name type fields) = None
type_step step (UnionOf name alternatives) = None

abbrev pub with_some : {A B : Type 0} → Option A → (A → Option B) → Option B
with_some None f = None
with_some (Some x) f = f x

-- the places of the fields to which steps lead from a type, one after the other, if they lead to an array
abbrev pub list_at : List Step → PokeType → Option Path
list_at [] ty = if is_list ty [] then Some [] else None
list_at (step ∷ steps) ty =
    with_some (type_step step ty) (λ field. option_map (λ path. field.0 ∷ path) (list_at steps field.1))

abbrev pub fields_in : InnerList → Path
fields_in list = list.fields.items

-- it is the list of a type at a path, if there is one
abbrev pub IsFound : PokeType → PathWords → Option InnerList → Type 0
IsFound ty path found = option_map fields_in found ≡ list_at path.steps.items ty

-- a list of the type of a run
abbrev pub IsListIn : TypeRun → InnerList → Type 0
IsListIn run list = is_list (run_type run) (fields_in list) ≡ true

-- a field of a table, and its type
abbrev pub field_type : List Node → FieldPlace → ℕ × PokeType
field_type nodes field = (field.place, type_of nodes field.node)

abbrev mutual
  -- the type of the elements of the array at a path; a type itself, where the path leads to no array
  pub element_type : PokeType → Path → PokeType
  element_type (IntegerOf type) path = IntegerOf type
  element_type (OffsetOf type unit) path = OffsetOf type unit
  element_type StringOf path = StringOf
  element_type (ArrayOf element bound) path = element
  element_type (StructOf name pinned fields) [] = StructOf name pinned fields
  element_type (StructOf name pinned fields) (place ∷ path) =
      element_type_in (StructOf name pinned fields) fields place path
  element_type (IntegralOf name type fields) path = IntegralOf name type fields
  element_type (UnionOf name alternatives) path = UnionOf name alternatives

  pub element_type_in : (whole : PokeType) → Fields → (place : ℕ) → Path → PokeType
  element_type_in whole NoFields place path = whole
  element_type_in whole (FieldThen name order type constraint label condition rest) zero path = element_type type path
  element_type_in whole (FieldThen name order type constraint label condition rest) (suc place) path =
      element_type_in whole rest place path
