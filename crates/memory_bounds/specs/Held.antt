-- What the computed numbers of a type mean.
use Rattle.std.specs.Prelude.{◌≡◌, ℕ, List, Some, true, false, slice_get}
use Rattle.pickle_types.specs.declared.node.Field.{Field}
use Rattle.pickle_types.specs.declared.node.Node.{Node}
use Rattle.pickle_types.specs.declared.node.Part.{Part}
use Rattle.pickle_types.specs.Types.{PokeType, Fields, FieldThen, Parts, PartThen}
use Rattle.pickle_types.specs.Table.{type_of, name_of, optional_term}
use Rattle.pickle_types.specs.Bounds.{IsBound, least_width, sum_of_widths, greatest_width, least_of_widths, has_label}
use Rattle.pickle_types.specs.Holds.{HoldsWidth, is_none}
use Rattle.mapping_plans.specs.Rows.{layout_of, row_of}
use Rattle.value_store.specs.declared.store.slots.Marks.{Marks}
use Rattle.value_store.specs.Takes.{Vector, NodesOf, FamiliesOf, LinksOf, PendingOf, TextsOf, BytesOf}
use Rattle.type_soundness.specs.Capacity.{array_bound, array_bytes, fields_bytes, fit_bytes, parts_bytes, capacity_bound, fields_bound, parts_bound, greatest_bound}
use Rattle.memory_bounds.specs.declared.lengths.Lengths.{Lengths}
use Rattle.memory_bounds.specs.declared.types.TypeCapacity.{TypeCapacity}
use Rattle.memory_bounds.specs.declared.fields.FieldCapacity.{FieldCapacity}
use Rattle.memory_bounds.specs.declared.parts.PartCapacity.{PartCapacity}

-- so much of each vector
abbrev pub lengths_of : (Vector → ℕ) → Marks
lengths_of most = record {
  nodes = most NodesOf;
  families = most FamiliesOf;
  links = most LinksOf;
  pending = most PendingOf;
  texts = most TextsOf;
  bytes = most BytesOf;
}

pub record AreLengths (l : Lengths) (most : Vector → ℕ) : Type 0 where
  pub nodes : IsBound l.nodes (most NodesOf)
  pub families : IsBound l.families (most FamiliesOf)
  pub links : IsBound l.links (most LinksOf)
  pub pending : IsBound l.pending (most PendingOf)
  pub texts : IsBound l.texts (most TextsOf)
  pub bytes : IsBound l.bytes (most BytesOf)

pub record AreCapacities (c : TypeCapacity) (type : PokeType) (m : ℕ) : Type 0 where
  pub least : HoldsWidth c.least (least_width type)
  pub apart : AreLengths c.apart (λ vector. capacity_bound false vector type m)
  pub packed : AreLengths c.packed (λ vector. capacity_bound true vector type m)
  pub arrays : IsBound c.arrays (array_bytes type)

pub record AreFieldCapacities (c : FieldCapacity) (fields : Fields) (m : ℕ) : Type 0 where
  pub sum : HoldsWidth c.sum (sum_of_widths fields)
  pub greatest : HoldsWidth c.greatest (greatest_width fields)
  pub label : c.has_label ≡ has_label fields
  pub apart : AreLengths c.apart (λ vector. fields_bound false vector fields m)
  pub packed : AreLengths c.packed (λ vector. fields_bound true vector fields m)
  pub arrays : IsBound c.arrays (fields_bytes fields)

pub record ArePartCapacities (c : PartCapacity) (parts : Parts) (m : ℕ) : Type 0 where
  pub empty : c.is_empty ≡ is_none parts
  pub least : HoldsWidth c.least (least_of_widths parts)
  pub apart : AreLengths c.apart (λ vector. parts_bound false vector parts m)
  pub packed : AreLengths c.packed (λ vector. parts_bound true vector parts m)
  pub greatest_apart : AreLengths c.greatest_apart (λ vector. greatest_bound false vector parts m)
  pub greatest_packed : AreLengths c.greatest_packed (λ vector. greatest_bound true vector parts m)
  pub arrays : IsBound c.arrays (parts_bytes parts)

-- what an array takes of at most `count` elements of a type, in a store that packs arrays
abbrev pub AreArrayLengths : Lengths → (count : ℕ) → PokeType → (m : ℕ) → Type 0
AreArrayLengths l count type m =
    AreLengths l (λ vector. array_bound (row_of type) vector count (capacity_bound false vector type m)
    (capacity_bound true vector type m) (fit_bytes (layout_of 0 type) (array_bytes type) m))

-- the numbers of a field's own type and of the fields after it give those of all of them
abbrev pub JoinsField : (m : ℕ) → Field → (mine : TypeCapacity) → (rest all : FieldCapacity) → Type 0
JoinsField m field mine rest all =
    (type : PokeType) (fields : Fields) → AreCapacities mine type m → AreFieldCapacities rest fields m →
    AreFieldCapacities all (FieldThen (name_of field.name) field.order type (optional_term field.constraint)
    (optional_term field.label) (optional_term field.condition) fields) m

abbrev pub JoinsPart : (m : ℕ) → Part → (mine : TypeCapacity) → (rest all : PartCapacity) → Type 0
JoinsPart m part mine rest all =
    (type : PokeType) (parts : Parts) → AreCapacities mine type m → ArePartCapacities rest parts m →
    ArePartCapacities all (PartThen (name_of part.name) part.order type (optional_term part.constraint) parts) m

-- the numbers of the first nodes are known
pub record AreKnown (nodes : List Node) (known : List TypeCapacity) (m : ℕ) : Type 0 where
  pub each : (i : ℕ) (c : TypeCapacity) → slice_get known i ≡ Some c → AreCapacities c (type_of nodes i) m
