-- What the computed numbers of a type mean.
use Rattle.std.specs.Prelude.{◌≡◌, ℕ, List, Some, slice_get}
use Rattle.pickle_types.specs.declared.node.Field.{Field}
use Rattle.pickle_types.specs.declared.node.Node.{Node}
use Rattle.pickle_types.specs.declared.node.Part.{Part}
use Rattle.pickle_types.specs.Types.{PokeType, Fields, FieldThen, Parts, PartThen}
use Rattle.pickle_types.specs.Table.{type_of, name_of, optional_term}
use Rattle.pickle_types.specs.Bounds.{IsBound, cost, room, has_label}
use Rattle.pickle_types.specs.Holds.{is_none}
use Rattle.tight_bounds.specs.declared.bound.BothBounds.{BothBounds}
use Rattle.tight_bounds.specs.declared.type_grains.TypeGrains.{TypeGrains}
use Rattle.tight_bounds.specs.declared.field_grains.FieldGrains.{FieldGrains}
use Rattle.tight_bounds.specs.declared.part_grains.PartGrains.{PartGrains}
use Rattle.tight_bounds.specs.Tight.{width, sum_of_fields, greatest_field, least_part, own, fields_own, parts_own, fixed, rate, attempt, missed, fields_fixed, sum_of_rates, greatest_rate, fields_attempt, fields_missed, digits_fixed, digits_missed, parts_fixed, parts_rate, parts_attempt, parts_missed, tight, tight_slots}

pub record AreGrains (g : TypeGrains) (type : PokeType) (m : ℕ) : Type 0 where
  pub width : IsBound g.width (width type)
  pub own : IsBound g.own (own type)
  pub fixed : IsBound g.fixed (fixed type m)
  pub rate : IsBound g.rate (rate type m)
  pub attempt : IsBound g.attempt (attempt type m)
  pub missed : IsBound g.missed (missed type m)

pub record AreFieldGrains (g : FieldGrains) (fields : Fields) (m : ℕ) : Type 0 where
  pub sum : IsBound g.sum (sum_of_fields fields)
  pub greatest : IsBound g.greatest (greatest_field fields)
  pub label : g.has_label ≡ has_label fields
  pub own : IsBound g.own (fields_own fields)
  pub fixed : IsBound g.fixed (fields_fixed fields m)
  pub sum_of_rates : IsBound g.sum_of_rates (sum_of_rates fields m)
  pub greatest_rate : IsBound g.greatest_rate (greatest_rate fields m)
  pub attempt : IsBound g.attempt (fields_attempt fields m)
  pub missed : IsBound g.missed (fields_missed fields m)

pub record ArePartGrains (g : PartGrains) (parts : Parts) (m : ℕ) : Type 0 where
  pub empty : g.is_empty ≡ is_none parts
  pub width : IsBound g.width (least_part parts)
  pub own : IsBound g.own (parts_own parts)
  pub fixed : IsBound g.fixed (parts_fixed parts m)
  pub rate : IsBound g.rate (parts_rate parts m)
  pub attempt : IsBound g.attempt (parts_attempt parts m)
  pub missed : IsBound g.missed (parts_missed parts m)
  pub digits_fixed : IsBound g.digits_fixed (digits_fixed parts m)
  pub digits_missed : IsBound g.digits_missed (digits_missed parts m)

-- the numbers of a field's own type and of the fields after it give those of all of them
abbrev pub JoinsField : (m : ℕ) → Field → (mine : TypeGrains) → (rest all : FieldGrains) → Type 0
JoinsField m field mine rest all =
    (type : PokeType) (fields : Fields) → AreGrains mine type m → AreFieldGrains rest fields m →
    AreFieldGrains all (FieldThen (name_of field.name) field.order type (optional_term field.constraint)
    (optional_term field.label) (optional_term field.condition) fields) m

abbrev pub JoinsPart : (m : ℕ) → Part → (mine : TypeGrains) → (rest all : PartGrains) → Type 0
JoinsPart m part mine rest all =
    (type : PokeType) (parts : Parts) → AreGrains mine type m → ArePartGrains rest parts m →
    ArePartGrains all (PartThen (name_of part.name) part.order type (optional_term part.constraint) parts) m

-- the numbers of the first nodes are known
pub record AreKnown (nodes : List Node) (known : List TypeGrains) (m : ℕ) : Type 0 where
  pub each : (i : ℕ) (g : TypeGrains) → slice_get known i ≡ Some g → AreGrains g (type_of nodes i) m

-- the bounds of a type, and the tighter ones
pub record AreBothBounds (both : BothBounds) (type : PokeType) (m : ℕ) : Type 0 where
  pub steps : IsBound both.steps (cost type m)
  pub slots : IsBound both.slots (room type m)
  pub tight_steps : IsBound both.tight_steps (tight type m)
  pub tight_slots : IsBound both.tight_slots (tight_slots type m)
