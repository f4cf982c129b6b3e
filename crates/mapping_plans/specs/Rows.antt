-- How a store may pack the elements of an array of a type.
use Rattle.std.specs.Prelude.{ℕ, ◌+◌, ◌*◌, List, [], ◌∷◌, Option, Some, None, Bool, true, false, nat_eq, nat_le, if◌then◌else◌}
use Rattle.pickle_types.specs.declared.integer.IntegerType.{IntegerType}
use Rattle.pickle_types.specs.Types.{PokeType, IntegerOf, OffsetOf, StringOf, ArrayOf, StructOf, IntegralOf, UnionOf, Bound, Unbounded, ByCount, BySize, Fields, NoFields, FieldThen, Parts, NoParts, PartThen, Term, Number, Text, Name, Bracket, Before, Between, Choice, Index, Select, AttributeOf, ToInteger, ToOffset, InUnit}
use Rattle.value_store.specs.Packed.{bytes_for}
use Rattle.value_store.specs.declared.store.slots.Shape.{Shape}
use Rattle.value_store.specs.declared.store.slots.Shape.TheVariants as value

-- an expression names nothing of the frame at that level, counted from the innermost
abbrev pub avoids : (level : ℕ) → Term → Bool
avoids level (Number type value) = true
avoids level (Text bytes) = true
avoids level (Name named place) = if nat_eq named level then false else true
avoids level (Bracket e) = avoids level e
avoids level (Before op e) = avoids level e
avoids level (Between op a b) = if avoids level a then avoids level b else false
avoids level (Choice common c x y) =
    if avoids level c then (if avoids level x then avoids level y else false) else false
avoids level (Index e i) = if avoids level e then avoids level i else false
avoids level (Select e place) = avoids level e
avoids level (AttributeOf attribute e) = avoids level e
avoids level (ToInteger type e) = avoids level e
avoids level (ToOffset type unit e) = avoids level e
avoids level (InUnit unit e) = avoids level e

-- a clause that is left out avoids each frame
abbrev pub clause_avoids : (level : ℕ) → Option Term → Bool
clause_avoids level None = true
clause_avoids level (Some e) = avoids level e

-- how elements are kept, where arrays are packed: as other values, as numbers of so many bits side by side, as structs
-- of numbers of such widths side by side, or as values of fixed layout whose numbers take so many bytes
pub data Row : Type 0 where
  Apart : Row
  Numbers : (width : ℕ) → Row
  Records : (widths : List ℕ) → Row
  Values : (stride : ℕ) → Row

-- the width of an integer or an offset
abbrev pub scalar_width : PokeType → Option ℕ
scalar_width (IntegerOf type) = Some type.width
scalar_width (OffsetOf type unit) = Some type.width
scalar_width StringOf = None
scalar_width (ArrayOf element bound) = None
scalar_width (StructOf name pinned _) = None
scalar_width (IntegralOf name type _) = None
scalar_width (UnionOf name alternatives) = None

-- the width of a field that is always there, behind the one before it, and whose constraint names nothing of the frame
-- around the struct
abbrev pub column_width : PokeType → (constraint label condition : Option Term) → Option ℕ
column_width type constraint None None = if clause_avoids 1 constraint then scalar_width type else None
column_width type constraint (Some label) condition = None
column_width type constraint None (Some condition) = None

abbrev pub column_then : Option ℕ → Option (List ℕ) → Option (List ℕ)
column_then (Some width) (Some widths) = Some (width ∷ widths)
column_then None widths = None
column_then (Some width) None = None

-- the widths of fields that all are such numbers
abbrev pub column_widths : Fields → Option (List ℕ)
column_widths NoFields = Some []
column_widths (FieldThen name order type constraint label condition rest) =
    column_then (column_width type constraint label condition) (column_widths rest)

-- how many bytes numbers of these widths take side by side
abbrev pub stride_of : List ℕ → ℕ
stride_of [] = 0
stride_of (width ∷ widths) = bytes_for width + stride_of widths

-- at least one byte, and at most 512
abbrev pub records_of : Option (List ℕ) → Row
records_of None = Apart
records_of (Some widths) =
    if nat_le 1 (stride_of widths) then (if nat_le (stride_of widths) 512 then Records widths else Apart) else Apart

abbrev pub struct_row : (pinned : Bool) → Fields → Row
struct_row true _ = Apart
struct_row false fields = records_of (column_widths fields)

-- how many bits each value of a type takes, and how many bytes its numbers take side by side
pub record Layout : Type 0 where
  pub bits : ℕ
  pub bytes : ℕ

abbrev pub number_layout : IntegerType → Layout
number_layout type = record { bits = type.width; bytes = bytes_for type.width }

abbrev pub no_layout : Layout
no_layout = record { bits = 0; bytes = 0 }

abbrev pub sum_of : Layout → Layout → Layout
sum_of one others = record { bits = one.bits + others.bits; bytes = one.bytes + others.bytes }

-- at most 512 bytes
abbrev pub few_bytes : Layout → Option Layout
few_bytes own = if nat_le own.bytes 512 then Some own else None

-- A struct or an array has at least one byte. So a struct has at most 512 numbers and arrays, those of structs in it
-- included.
abbrev pub some_bytes : Option Layout → Option Layout
some_bytes None = None
some_bytes (Some own) = if nat_le 1 own.bytes then Some own else None

-- a field and the fields after it
abbrev pub layout_then : Option Layout → Option Layout → Option Layout
layout_then (Some one) (Some others) = few_bytes (sum_of one others)
layout_then None others = None
layout_then (Some one) None = None

-- a field that is always there, right after the one before it, and whose constraint names nothing of a frame
abbrev pub field_layout : (avoids : Bool) → (label condition : Option Term) → Option Layout → Option Layout
field_layout true None None own = own
field_layout false None None own = None
field_layout avoids (Some label) condition own = None
field_layout avoids None (Some condition) own = None

-- the bits of an integral struct's fields are those of the struct
abbrev pub whole_number : (width : ℕ) → Option Layout → Option Layout
whole_number width None = None
whole_number width (Some own) = if nat_eq own.bits width then Some own else None

-- a literal number
abbrev pub literal : Term → Option ℕ
literal (Number type value) = Some value
literal (Text bytes) = None
literal (Name level place) = None
literal (Bracket e) = None
literal (Before op e) = None
literal (Between op a b) = None
literal (Choice common c x y) = None
literal (Index e i) = None
literal (Select e place) = None
literal (AttributeOf attribute e) = None
literal (ToInteger type e) = None
literal (ToOffset type unit e) = None
literal (InUnit unit e) = None

-- the count of an array whose bound is a literal number
abbrev pub literal_count : Bound → Option ℕ
literal_count Unbounded = None
literal_count (ByCount e) = literal e
literal_count (BySize e) = None

-- so many numbers of a width, one after the other
abbrev pub numbers_layout : (width count : ℕ) → Layout
numbers_layout width count = record { bits = width * count; bytes = bytes_for width * count }

-- an array of so many numbers of at most 32 bits, and of at least one
abbrev pub array_layout : (width count : Option ℕ) → Option Layout
array_layout None count = None
array_layout (Some width) None = None
array_layout (Some width) (Some count) =
    if nat_le width 32 then some_bytes (few_bytes (numbers_layout width count)) else None

abbrev mutual
  -- The layout of a type whose values are all alike but for their numbers: integers, offsets, arrays of a literal count
  -- of these, and structs and integral structs of such fields, one after the other. No constraint names anything of the
  -- frame at that level of the frames around a value.
  pub layout_of : (level : ℕ) → PokeType → Option Layout
  layout_of level (IntegerOf type) = Some (number_layout type)
  layout_of level (OffsetOf type unit) = Some (number_layout type)
  layout_of level StringOf = None
  layout_of level (ArrayOf element bound) = array_layout (scalar_width element) (literal_count bound)
  layout_of level (StructOf name true _) = None
  layout_of level (StructOf name false fields) = some_bytes (fields_layout (level + 1) fields)
  layout_of level (IntegralOf name type fields) =
      whole_number type.width (some_bytes (parts_layout (level + 1) fields))
  layout_of level (UnionOf name alternatives) = None

  pub fields_layout : (level : ℕ) → Fields → Option Layout
  fields_layout level NoFields = Some no_layout
  fields_layout level (FieldThen name order type constraint label condition rest) =
      layout_then (field_layout (clause_avoids level constraint) label condition (layout_of level type))
      (fields_layout level rest)

  pub parts_layout : (level : ℕ) → Parts → Option Layout
  parts_layout level NoParts = Some no_layout
  parts_layout level (PartThen name order type constraint rest) =
      layout_then (field_layout (clause_avoids level constraint) None None (layout_of level type))
      (parts_layout level rest)

-- how many parts an expression has, itself included
abbrev pub term_weight : Term → ℕ
term_weight (Number type value) = 1
term_weight (Text bytes) = 1
term_weight (Name level place) = 1
term_weight (Bracket e) = 1 + term_weight e
term_weight (Before op e) = 1 + term_weight e
term_weight (Between op a b) = 1 + (term_weight a + term_weight b)
term_weight (Choice common c x y) = 1 + (term_weight c + (term_weight x + term_weight y))
term_weight (Index e i) = 1 + (term_weight e + term_weight i)
term_weight (Select e place) = 1 + term_weight e
term_weight (AttributeOf attribute e) = 1 + term_weight e
term_weight (ToInteger type e) = 1 + term_weight e
term_weight (ToOffset type unit e) = 1 + term_weight e
term_weight (InUnit unit e) = 1 + term_weight e

abbrev pub clause_weight : Option Term → ℕ
clause_weight None = 0
clause_weight (Some e) = term_weight e

abbrev mutual
  -- how much there is to look at in a type: the type, those of its fields each time that they are used, and the parts
  -- of their constraints
  pub weight_of : PokeType → ℕ
  weight_of (IntegerOf type) = 1
  weight_of (OffsetOf type unit) = 1
  weight_of StringOf = 1
  weight_of (ArrayOf element bound) = 1
  weight_of (StructOf name pinned fields) = 1 + fields_weight fields
  weight_of (IntegralOf name type fields) = 1 + parts_weight fields
  weight_of (UnionOf name alternatives) = 1

  pub fields_weight : Fields → ℕ
  fields_weight NoFields = 0
  fields_weight (FieldThen name order type constraint label condition rest) =
      clause_weight constraint + (weight_of type + fields_weight rest)

  pub parts_weight : Parts → ℕ
  parts_weight NoParts = 0
  parts_weight (PartThen name order type constraint rest) =
      clause_weight constraint + (weight_of type + parts_weight rest)

-- the layout of the elements of an array; a type that has more than 4096 parts isn't looked at
abbrev pub element_layout : PokeType → Option Layout
element_layout type = if nat_le (weight_of type) 4096 then layout_of 0 type else None

-- elements of fixed layout that aren't kept in another way
abbrev pub or_values : Row → Option Layout → Row
or_values Apart None = Apart
or_values Apart (Some own) = Values own.bytes
or_values (Numbers width) own = Numbers width
or_values (Records widths) own = Records widths
or_values (Values stride) own = Values stride

-- how the elements of a type are kept
abbrev pub row_of : PokeType → Row
row_of (IntegerOf type) = Numbers type.width
row_of (OffsetOf type unit) = Numbers type.width
row_of StringOf = Apart
row_of (ArrayOf element bound) = Apart
row_of (StructOf name pinned fields) =
    or_values (struct_row pinned fields) (element_layout (StructOf name pinned fields))
row_of (IntegralOf name type fields) = or_values Apart (element_layout (IntegralOf name type fields))
row_of (UnionOf name alternatives) = Apart

-- the shape of the node of an integer or an offset
abbrev pub scalar_shape : PokeType → Shape
scalar_shape (IntegerOf type) = value.Integer type.width type.signed
scalar_shape (OffsetOf type unit) = value.Offset type.width type.signed unit
scalar_shape StringOf = value.Text
scalar_shape (ArrayOf element bound) = value.Array
scalar_shape (StructOf name pinned _) = value.Array
scalar_shape (IntegralOf name type _) = value.Array
scalar_shape (UnionOf name alternatives) = value.Array
