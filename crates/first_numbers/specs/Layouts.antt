-- The first numbers of a type: those of which one has a constraint over itself and constants alone, and stands at a
-- constant place whatever is read.
use Rattle.std.specs.Prelude.{ℕ, zero, suc, ◌+◌, ◌*◌, ◌^◌, max, length, Bool, true, false, ◌&&◌, nat_eq, nat_lt, nat_le, if◌then◌else◌, map, List, [], ◌∷◌, ◌++◌, Option, Some, None}
use Rattle.pickle_tree.specs.declared.tree.ByteOrder.{ByteOrder}
use Rattle.pickle_types.specs.Types.{Term, Number, Text, Name, Bracket, Before, Between, Choice, Index, Select, AttributeOf, ToInteger, ToOffset, InUnit, PokeType, IntegerOf, OffsetOf, StringOf, ArrayOf, StructOf, IntegralOf, UnionOf, Fields, NoFields, FieldThen, Parts, NoParts, PartThen}
use Rattle.first_numbers.specs.declared.number.Numeral.{Numeral}
use Rattle.first_numbers.specs.declared.passed.Passed.{Passed}

-- ---- constraints over one number

-- a name of a value in the innermost frame, at that place
abbrev pub is_own : (own level place : ℕ) → Bool
is_own own zero place = nat_eq place own
is_own own (suc level) place = false

-- an expression over integers and offsets, in which each name is of the value at that place of the innermost frame
abbrev pub is_over_own : (own : ℕ) → Term → Bool
is_over_own own (Number type value) = true
is_over_own own (Text bytes) = false
is_over_own own (Name level place) = is_own own level place
is_over_own own (Bracket e) = is_over_own own e
is_over_own own (Before op e) = is_over_own own e
is_over_own own (Between op a b) = is_over_own own a && is_over_own own b
is_over_own own (Choice common c x y) = false
is_over_own own (Index e i) = false
is_over_own own (Select e place) = false
is_over_own own (AttributeOf attribute e) = false
is_over_own own (ToInteger type e) = is_over_own own e
is_over_own own (ToOffset type unit e) = is_over_own own e
is_over_own own (InUnit unit e) = is_over_own own e

-- ---- first numbers

-- a number that has such a constraint
pub record FirstNumber : Type 0 where
  -- where it begins, in bits from the start of the type
  pub place : ℕ
  pub numeral : Numeral
  -- its byte order, where that isn't the one around the type
  pub order : Option ByteOrder
  -- its place in its frame
  pub own : ℕ
  pub constraint : Term

-- The first numbers of a type. If all of them fail, the type has a Constraint fault, so many bits from its start, in
-- `base` steps and those of the constraints. They, and all that is read before them, end at most `need` bits from the
-- start.
pub record First : Type 0 where
  pub base : ℕ
  pub need : ℕ
  pub fault : ℕ
  pub numbers : List FirstNumber

abbrev pub first_order : Option ByteOrder → Option ByteOrder → Option ByteOrder
first_order None set = set
first_order (Some order) set = Some order

-- a number of a type that begins so many bits from the start of another, with the prefix of a byte order
abbrev pub moved_number : (place : ℕ) → Option ByteOrder → FirstNumber → FirstNumber
moved_number place set x = record x { place = place + x.place; order = first_order x.order set }

abbrev pub moved : (place : ℕ) → Option ByteOrder → List FirstNumber → List FirstNumber
moved place set numbers = map (moved_number place set) numbers

-- ---- layouts

-- What is known of a type before it is read: a number; a value of a width in bits, in so many steps, without a fault;
-- first numbers; or none of these.
pub data Layout : Type 0 where
  AsNumber : (numeral : Numeral) → Layout
  Fixed : (width steps : ℕ) → Layout
  Tests : (first : First) → Layout
  Loose : Layout

-- bits and steps are counted up to here
abbrev pub is_small : ℕ → Bool
is_small n = nat_lt n (2 ^ 32)

-- so many first numbers are listed
abbrev pub are_few : List FirstNumber → Bool
are_few numbers = nat_le (length numbers) 64

-- a count of bits, where it is small
abbrev pub small : ℕ → Option ℕ
small n = if is_small n then Some n else None

abbrev pub is_listed : First → Bool
is_listed f = is_small f.base && (is_small f.need && (is_small f.fault && are_few f.numbers))

-- the first number of a part that is a number with a constraint
abbrev pub number_first : (own : ℕ) → Numeral → Term → First
number_first own n e = record {
  base = 1;
  need = n.number.width;
  fault = 0;
  numbers = record { place = 0; numeral = n; order = None; own = own; constraint = e } ∷ [];
}

-- a part of a type, which is a field or an alternative, with its constraint; its place in its frame is `own`
abbrev pub part_layout : (own : ℕ) → Layout → Option Term → Layout
part_layout own (AsNumber n) None = Fixed n.number.width 1
part_layout own (AsNumber n) (Some e) = if is_over_own own e then Tests (number_first own n e) else Loose
part_layout own (Fixed width steps) None = Fixed width steps
part_layout own (Fixed width steps) (Some e) = Loose
part_layout own (Tests f) c = Tests f
part_layout own Loose c = Loose

-- a struct's own step
abbrev pub none_passed : Passed
none_passed = record { count = 0; behind = 0; top = 0; steps = 1 }

-- the bits of a literal label
abbrev pub literal_place : Term → Option ℕ
literal_place (InUnit unit (Number type value)) = small (value * unit)
literal_place e = None

-- where a field begins, in bits from its struct's start
abbrev pub field_place : (pinned : Bool) → (label : Option Term) → (behind : ℕ) → Option ℕ
field_place true label behind = Some 0
field_place false None behind = Some behind
field_place false (Some e) behind = literal_place e

-- only a field without a condition surely is there
abbrev pub sure_place : (condition : Option Term) → Option ℕ → Option ℕ
sure_place None place = place
sure_place (Some e) place = None

-- the steps of a field before those of its type: its own, and those of a literal label
abbrev pub lead_steps : (pinned : Bool) → (label : Option Term) → ℕ
lead_steps true label = 1
lead_steps false None = 1
lead_steps false (Some e) = 3

-- one more field, without a fault
abbrev pub past : Passed → (place lead width steps : ℕ) → Passed
past b place lead width steps = record {
  count = b.count + 1;
  behind = place + width;
  top = max b.top (place + width);
  steps = b.steps + (lead + steps);
}

-- the first numbers of a field, seen from its struct
abbrev pub inside : Passed → (place lead : ℕ) → Option ByteOrder → First → First
inside b place lead set f = record {
  base = b.steps + (lead + f.base);
  need = max b.top (place + f.need);
  fault = place + f.fault;
  numbers = moved place set f.numbers;
}

abbrev pub if_passed : Passed → (Passed → Layout) → Layout
if_passed b rest = if is_small b.top && is_small b.steps then rest b else Loose

abbrev pub if_listed : First → (First → Layout) → Layout
if_listed f rest = if is_listed f then rest f else Loose

-- a struct from one of its fields on
abbrev pub field_then : Layout → (place lead : ℕ) → Option ByteOrder → Passed → (Passed → Layout) → Layout
field_then (AsNumber n) place lead set b rest = Loose
field_then (Fixed width steps) place lead set b rest = if_passed (past b place lead width steps) rest
field_then (Tests f) place lead set b rest = if_listed (inside b place lead set f) Tests
field_then Loose place lead set b rest = Loose

abbrev pub at_place : Option ℕ → (ℕ → Layout) → Layout
at_place None f = Loose
at_place (Some place) f = f place

-- no alternative was tried
abbrev pub none_tried : First
none_tried = record { base = 1; need = 0; fault = 0; numbers = [] }

-- one more alternative that fails
abbrev pub besides : First → Option ByteOrder → First → First
besides all set f = record {
  base = all.base + (1 + f.base);
  need = max all.need f.need;
  fault = 0;
  numbers = all.numbers ++ moved 0 set f.numbers;
}

-- a union from one of its alternatives on, each of which must have first numbers
abbrev pub alternative_then : Layout → Option ByteOrder → First → (First → Layout) → Layout
alternative_then (AsNumber n) set all rest = Loose
alternative_then (Fixed width steps) set all rest = Loose
alternative_then (Tests f) set all rest = if_listed (besides all set f) rest
alternative_then Loose set all rest = Loose

unfoldable mutual
  pub layout : PokeType → Layout
  layout (IntegerOf type) = AsNumber (record { number = type; unit = None })
  layout (OffsetOf type unit) = AsNumber (record { number = type; unit = Some unit })
  layout StringOf = Loose
  layout (ArrayOf element bound) = Loose
  layout (StructOf name pinned fields) = fields_layout pinned fields none_passed
  layout (IntegralOf name type fields) = Loose
  layout (UnionOf name alternatives) = alternatives_layout alternatives none_tried

  -- the fields of a struct from here on
  pub fields_layout : (pinned : Bool) → Fields → Passed → Layout
  fields_layout pinned NoFields b = Fixed b.top b.steps
  fields_layout pinned (FieldThen name set ty c label when rest) b =
      at_place (sure_place when (field_place pinned label b.behind)) (λ place.
      field_then (part_layout b.count (layout ty) c) place (lead_steps pinned label) set b (fields_layout pinned rest))

  -- the alternatives of a union from here on
  pub alternatives_layout : Parts → First → Layout
  alternatives_layout NoParts all = Tests all
  alternatives_layout (PartThen name set ty c rest) all =
      alternative_then (part_layout 0 (layout ty) c) set all (alternatives_layout rest)
