-- The bounds that a computed record of bounds has.
use Rattle.std.specs.Prelude.{◌≡◌, ℕ, ◌≤◌, ◌^◌, Bool, true, false, List, [], ◌∷◌, Option, Some, None, slice_get}
use Rattle.pickle_types.specs.declared.bounds.Bounds.{Bounds}
use Rattle.pickle_types.specs.declared.bounds.FieldBounds.{FieldBounds}
use Rattle.pickle_types.specs.declared.bounds.PartBounds.{PartBounds}
use Rattle.pickle_types.specs.declared.node.Field.{Field}
use Rattle.pickle_types.specs.declared.node.Node.{Node}
use Rattle.pickle_types.specs.declared.node.Part.{Part}
use Rattle.pickle_types.specs.Types.{PokeType, Fields, Parts, NoParts, PartThen}
use Rattle.pickle_types.specs.Table.{type_of, fields_onto, parts_onto}
use Rattle.pickle_types.specs.Bounds.{least_width, sum_of_widths, greatest_width, has_label, least_of_widths, cost, fields_cost, parts_cost, room, fields_room, parts_room, greatest_room, IsBound}

-- a width as it is stored: None from 2^64 on
abbrev pub HoldsWidth : Option ℕ → ℕ → Type 0
HoldsWidth None w = 2 ^ 64 ≤ w
HoldsWidth (Some n) w = n ≡ w

-- whether there are no parts
abbrev pub is_none : Parts → Bool
is_none NoParts = true
is_none (PartThen name order type constraint rest) = false

pub record AreBounds (b : Bounds) (type : PokeType) (m : ℕ) : Type 0 where
  pub least : HoldsWidth b.least (least_width type)
  pub steps : IsBound b.steps (cost type m)
  pub slots : IsBound b.slots (room type m)

pub record AreFieldBounds (b : FieldBounds) (fields : Fields) (m : ℕ) : Type 0 where
  pub sum : HoldsWidth b.sum (sum_of_widths fields)
  pub greatest : HoldsWidth b.greatest (greatest_width fields)
  pub label : b.has_label ≡ has_label fields
  pub steps : IsBound b.steps (fields_cost fields m)
  pub slots : IsBound b.slots (fields_room fields m)

pub record ArePartBounds (b : PartBounds) (parts : Parts) (m : ℕ) : Type 0 where
  pub empty : b.is_empty ≡ is_none parts
  pub least : HoldsWidth b.least (least_of_widths parts)
  pub steps : IsBound b.steps (parts_cost parts m)
  pub slots : IsBound b.slots (parts_room parts m)
  pub greatest_slots : IsBound b.greatest_slots (greatest_room parts m)

-- the bounds of a field and of those after it, from those of its type and of the fields after it
abbrev pub BoundsFieldThen : Field → (own : Bounds) → (rest all : FieldBounds) → Type 0
BoundsFieldThen field own rest all =
    (type : PokeType) (fields : Fields) (m : ℕ) → AreBounds own type m → AreFieldBounds rest fields m →
    AreFieldBounds all (fields_onto (λ _. type) (field ∷ []) fields) m

abbrev pub BoundsPartThen : Part → (own : Bounds) → (rest all : PartBounds) → Type 0
BoundsPartThen part own rest all =
    (type : PokeType) (parts : Parts) (m : ℕ) → AreBounds own type m → ArePartBounds rest parts m →
    ArePartBounds all (parts_onto (λ _. type) (part ∷ []) parts) m

-- the bounds of the type that is made of any parts with those bounds
abbrev pub BoundsMade : PartBounds → (Parts → PokeType) → Bounds → Type 0
BoundsMade parts made b = (all : Parts) (m : ℕ) → ArePartBounds parts all m → AreBounds b (made all) m

-- the bounds of the first declared types are known
pub record AreKnown (nodes : List Node) (roots : List ℕ) (known : List Bounds) (m : ℕ) : Type 0 where
  pub each : (k root : ℕ) (b : Bounds) → slice_get roots k ≡ Some root → slice_get known k ≡ Some b →
      AreBounds b (type_of nodes root) m
