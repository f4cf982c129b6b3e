-- What the computed first numbers of a type mean.
use Rattle.std.specs.Prelude.{◌≡◌, ℕ, ◌+◌, ◌≤◌, true, false, Bool, List, [], ◌∷◌, map, Option, Some, None, slice_get}
use Rattle.pickle_tree.specs.declared.tree.ByteOrder.{ByteOrder}
use Rattle.pickle_types.specs.declared.node.Field.{Field}
use Rattle.pickle_types.specs.declared.node.Node.{Node}
use Rattle.pickle_types.specs.declared.node.Part.{Part}
use Rattle.pickle_types.specs.Sound.{IsSoundTerm, IsWidth}
use Rattle.pickle_types.specs.Table.{type_of, term_of, name_of, optional_term}
use Rattle.pickle_types.specs.Types.{Term, PokeType, Fields, FieldThen, Parts, PartThen}
use Rattle.first_numbers.specs.declared.layouts.Layout.{Layout as HeldLayout}
use Rattle.first_numbers.specs.declared.layouts.Layout.TheVariants as held
use Rattle.first_numbers.specs.declared.layouts.Step.{Step}
use Rattle.first_numbers.specs.declared.layouts.Step.TheVariants.{On, Done}
use Rattle.first_numbers.specs.declared.number.First.{First as HeldFirst}
use Rattle.first_numbers.specs.declared.number.FirstNumber.{FirstNumber as HeldNumber}
use Rattle.first_numbers.specs.declared.number.Numeral.{Numeral}
use Rattle.first_numbers.specs.declared.passed.Passed.{Passed}
use Rattle.first_numbers.specs.Layouts.{FirstNumber, First, Layout, AsNumber, Fixed, Tests, Loose, layout, fields_layout, alternatives_layout, besides, field_then, is_listed, is_over_own, part_layout}

abbrev pub number_shown : HeldNumber → FirstNumber
number_shown x = record {
  place = x.place;
  numeral = x.numeral;
  order = x.order;
  own = x.own;
  constraint = term_of x.constraint.now;
}

abbrev pub numbers_shown : List HeldNumber → List FirstNumber
numbers_shown numbers = map number_shown numbers

abbrev pub IsUnit : Option ℕ → Type 0
IsUnit None = Unit {0}
IsUnit (Some unit) = 1 ≤ unit

-- a number has a width, and an offset a unit
pub record IsSoundNumeral (x : Numeral) : Type 0 where
  pub width : IsWidth x.number
  pub unit : IsUnit x.unit

pub record IsNear (need : ℕ) (x : FirstNumber) : Type 0 where
  pub ends : x.place + x.numeral.number.width ≤ need
  pub numeral : IsSoundNumeral x.numeral
  pub sound : IsSoundTerm x.constraint
  pub over : is_over_own x.own x.constraint ≡ true

-- the numbers end at most so many bits from the start, and are sound
abbrev pub AreNear : (need : ℕ) → List FirstNumber → Type 0
AreNear need [] = Unit {0}
AreNear need (x ∷ xs) = IsNear need x × AreNear need xs

abbrev pub IsSoundFirst : HeldFirst → Type 0
IsSoundFirst held = AreNear held.need (numbers_shown held.numbers.items)

abbrev pub IsSoundLayout : HeldLayout → Type 0
IsSoundLayout (held.Number x) = IsSoundNumeral x
IsSoundLayout (held.Fixed width steps) = Unit {0}
IsSoundLayout (held.Tests first) = IsSoundFirst first
IsSoundLayout held.Loose = Unit {0}

-- what is known after one more field
abbrev pub IsSoundStep : Passed → Step → Type 0
IsSoundStep b (On next) = next.count ≡ b.count + 1
IsSoundStep b (Done l) = IsSoundLayout l

pub record HoldsFirst (held : HeldFirst) (f : First) : Type 0 where
  pub base : held.base ≡ f.base
  pub need : held.need ≡ f.need
  pub fault : held.fault ≡ f.fault
  pub numbers : numbers_shown held.numbers.items ≡ f.numbers

-- the first numbers of a layout
pub record HoldsTests (held : HeldFirst) (l : Layout) : Type 0 where
  pub first : First
  pub is : l ≡ Tests first
  pub holds : HoldsFirst held first

abbrev pub HoldsLayout : HeldLayout → Layout → Type 0
HoldsLayout (held.Number x) l = l ≡ AsNumber x
HoldsLayout (held.Fixed width steps) l = l ≡ Fixed width steps
HoldsLayout (held.Tests first) l = HoldsTests first l
HoldsLayout held.Loose l = l ≡ Loose

-- a field was passed, or the layout of the whole is known
abbrev pub HoldsStep : Step → Layout → (Passed → Layout) → Type 0
HoldsStep (On next) all rest = all ≡ rest next
HoldsStep (Done l) all rest = HoldsLayout l all

-- a part with its constraint
abbrev pub HoldsPart : (own : ℕ) → (mine : HeldLayout) → Option Term → (part : HeldLayout) → Type 0
HoldsPart own mine c part = (l : Layout) → HoldsLayout mine l → HoldsLayout part (part_layout own l c)

-- a struct from a field on, from the layout of the field as a part
abbrev pub GoesOn : (part : HeldLayout) → (place lead : ℕ) → Option ByteOrder → Passed → Step → Type 0
GoesOn part place lead set b step = (l : Layout) (rest : Passed → Layout) → HoldsLayout part l →
    HoldsStep step (field_then l place lead set b rest) rest

-- the layout of a struct from a field on, from that of its type
abbrev pub TakesField : (pinned : Bool) → Field → HeldLayout → Passed → Step → Type 0
TakesField pinned field mine b step =
    (type : PokeType) (rest : Fields) → HoldsLayout mine (layout type) →
    HoldsStep step (fields_layout pinned (FieldThen (name_of field.name) field.order type
    (optional_term field.constraint) (optional_term field.label) (optional_term field.condition) rest) b)
    (fields_layout pinned rest)

-- the first numbers of an alternative were added, or would be too many
abbrev pub AddsBesides : Option ByteOrder → (held before after : HeldFirst) → (goes_on : Bool) → Type 0
AddsBesides set held before after true =
    (all f : First) → HoldsFirst before all → HoldsFirst held f →
    HoldsFirst after (besides all set f) × (is_listed (besides all set f) ≡ true)
AddsBesides set held before after false =
    (all f : First) → HoldsFirst before all → HoldsFirst held f → is_listed (besides all set f) ≡ false

-- an alternative was added to those before it, or the union has no first numbers
abbrev pub TakesAlternative : Part → HeldLayout → (before after : HeldFirst) → (goes_on : Bool) → Type 0
TakesAlternative part mine before after true =
    (type : PokeType) (rest : Parts) (all : First) → HoldsLayout mine (layout type) → HoldsFirst before all →
    (next : First) × HoldsFirst after next × (alternatives_layout
    (PartThen (name_of part.name) part.order type (optional_term part.constraint) rest) all
    ≡ alternatives_layout rest next)
TakesAlternative part mine before after false =
    (type : PokeType) (rest : Parts) (all : First) → HoldsLayout mine (layout type) → HoldsFirst before all →
    alternatives_layout (PartThen (name_of part.name) part.order type (optional_term part.constraint) rest) all ≡ Loose

-- the layouts of the first nodes are known
pub record AreKnown (nodes : List Node) (known : List HeldLayout) : Type 0 where
  pub each : (i : ℕ) (held : HeldLayout) → slice_get known i ≡ Some held → HoldsLayout held (layout (type_of nodes i))
