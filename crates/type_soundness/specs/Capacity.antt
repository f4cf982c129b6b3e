-- How much of each vector of a store a mapping of a type takes at most, on m bits.
use Rattle.std.specs.Prelude.{ℕ, ◌+◌, ◌-◌, ◌*◌, ◌/◌, min, max, Bool, true, false, List, length, Option, Some, None, nat_le, if◌then◌else◌}
use Rattle.pickle_types.specs.Types.{PokeType, IntegerOf, OffsetOf, StringOf, ArrayOf, StructOf, IntegralOf, UnionOf, Fields, NoFields, FieldThen, Parts, NoParts, PartThen}
use Rattle.pickle_types.specs.Bounds.{least_width, count_of}
use Rattle.mapping_plans.specs.Rows.{Row, Apart, Numbers, Records, Values, Layout, scalar_width, literal_count, array_layout, layout_of, row_of, stride_of}
use Rattle.value_store.specs.Packed.{bytes_for}
use Rattle.value_store.specs.Takes.{Vector, NodesOf, FamiliesOf, LinksOf, PendingOf, TextsOf, BytesOf}

-- a number takes a node, and its place in a frame
abbrev pub number_bound : Vector → ℕ
number_bound NodesOf = 1
number_bound FamiliesOf = 0
number_bound LinksOf = 0
number_bound PendingOf = 1
number_bound TextsOf = 0
number_bound BytesOf = 0

-- a string also takes a text, of at most all bytes of the file
abbrev pub string_bound : Vector → ℕ → ℕ
string_bound NodesOf m = 1
string_bound FamiliesOf m = 0
string_bound LinksOf m = 0
string_bound PendingOf m = 1
string_bound TextsOf m = 1
string_bound BytesOf m = m / 8

-- an array, a struct or a union takes a family, beside what its members take
abbrev pub family_bound : Vector → ℕ
family_bound NodesOf = 1
family_bound FamiliesOf = 1
family_bound LinksOf = 0
family_bound PendingOf = 1
family_bound TextsOf = 0
family_bound BytesOf = 0

-- and a link for each member
abbrev pub link_bound : Vector → ℕ
link_bound NodesOf = 0
link_bound FamiliesOf = 0
link_bound LinksOf = 1
link_bound PendingOf = 0
link_bound TextsOf = 0
link_bound BytesOf = 0

-- packed numbers take one text, with the bytes of all; an array without elements takes a family
abbrev pub row_bound : Vector → (width count : ℕ) → ℕ
row_bound NodesOf width count = 1
row_bound FamiliesOf width count = 1
row_bound LinksOf width count = 0
row_bound PendingOf width count = 1
row_bound TextsOf width count = 1
row_bound BytesOf width count = bytes_for width * count

-- Packed structs take one text, with the bytes of all, and the nodes and links of one struct, their template. While a
-- struct is mapped, each of its numbers takes a node and a place in a frame of its own. An array without elements takes
-- a family.
abbrev pub records_bound : Vector → (widths : List ℕ) → (count : ℕ) → ℕ
records_bound NodesOf widths count = 2 * length widths + 2
records_bound FamiliesOf widths count = 1
records_bound LinksOf widths count = length widths
records_bound PendingOf widths count = length widths + 1
records_bound TextsOf widths count = 1
records_bound BytesOf widths count = stride_of widths * count

-- how many bytes a value of such a layout has
abbrev pub bytes_in : Option Layout → ℕ
bytes_in None = 0
bytes_in (Some own) = own.bytes

abbrev mutual
  -- how many bytes the arrays in a value of fixed layout take, each of which is packed while the value is mapped
  pub array_bytes : PokeType → ℕ
  array_bytes (IntegerOf type) = 0
  array_bytes (OffsetOf type unit) = 0
  array_bytes StringOf = 0
  array_bytes (ArrayOf element bound) = bytes_in (array_layout (scalar_width element) (literal_count bound))
  array_bytes (StructOf name pinned fields) = fields_bytes fields
  array_bytes (IntegralOf name type fields) = parts_bytes fields
  array_bytes (UnionOf name alternatives) = 0

  pub fields_bytes : Fields → ℕ
  fields_bytes NoFields = 0
  fields_bytes (FieldThen name order type constraint label condition rest) = array_bytes type + fields_bytes rest

  pub parts_bytes : Parts → ℕ
  parts_bytes NoParts = 0
  parts_bytes (PartThen name order type constraint rest) = array_bytes type + parts_bytes rest

-- How many bytes a packed value takes at most: those of all its numbers side by side, and those of its arrays, which
-- were packed before it. None fits in fewer bits than it has.
abbrev pub fit_bytes : Option Layout → (arrays m : ℕ) → ℕ
fit_bytes None arrays m = 0
fit_bytes (Some own) arrays m = if nat_le own.bits m then arrays + own.bytes else 0

-- Packed values of fixed layout: the first one stays, and so does its template, which takes `apart`, as any of them
-- does where nothing is packed. While another one is mapped there are three, and it takes `each`, which is more than
-- `apart` in texts and bytes alone. The array has a text and a place in a frame, where each node of the template waits
-- for its link while that is made. Each value takes `fit` bytes. Without elements the array takes a family.
abbrev pub values_bound : Vector → (count apart each fit : ℕ) → ℕ
values_bound NodesOf count apart each fit = min 3 (count + 1) * apart + 1
values_bound FamiliesOf count apart each fit = min 3 (count + 1) * apart + 1
values_bound LinksOf count apart each fit = min 3 (count + 1) * apart
values_bound PendingOf count apart each fit = apart + 1
values_bound TextsOf count apart each fit = min 2 count * each + 1
values_bound BytesOf count apart each fit = fit * (count - 1) + max each fit

-- An array of at most `count` elements: values that take `each`, packed numbers of a width, packed structs of numbers
-- of such widths, or packed values of fixed layout. These take `apart` where nothing is packed, and `fit` bytes.
abbrev pub array_bound : Row → Vector → (count apart each fit : ℕ) → ℕ
array_bound Apart vector count apart each fit = family_bound vector + count * (link_bound vector + each)
array_bound (Numbers width) vector count apart each fit = row_bound vector width count
array_bound (Records widths) vector count apart each fit = records_bound vector widths count
array_bound (Values stride) vector count apart each fit = values_bound vector count apart each fit

-- how a store keeps the elements of an array: one that doesn't pack keeps all as other values
abbrev pub where_rows : (packs : Bool) → Row → Row
where_rows true row = row
where_rows false row = Apart

unfoldable mutual
  -- what a mapping of a type on m bits takes of a vector at most, in a store that packs arrays of numbers, of structs
  -- of numbers and of other values of fixed layout, or in one that doesn't
  pub capacity_bound : (packs : Bool) → Vector → PokeType → (m : ℕ) → ℕ
  capacity_bound packs vector (IntegerOf type) m = number_bound vector
  capacity_bound packs vector (OffsetOf type unit) m = number_bound vector
  capacity_bound packs vector StringOf m = string_bound vector m
  capacity_bound packs vector (ArrayOf element bound) m =
      array_bound (where_rows packs (row_of element)) vector (count_of m (least_width element))
      (capacity_bound false vector element m) (capacity_bound packs vector element m)
      (fit_bytes (layout_of 0 element) (array_bytes element) m)
  capacity_bound packs vector (StructOf name pinned fields) m = family_bound vector + fields_bound packs vector fields m
  capacity_bound packs vector (IntegralOf name type fields) m = family_bound vector + parts_bound packs vector fields m
  capacity_bound packs vector (UnionOf name alternatives) m =
      family_bound vector + greatest_bound packs vector alternatives m

  pub fields_bound : (packs : Bool) → Vector → Fields → (m : ℕ) → ℕ
  fields_bound packs vector NoFields m = 0
  fields_bound packs vector (FieldThen name order type constraint label condition rest) m =
      (link_bound vector + capacity_bound packs vector type m) + fields_bound packs vector rest m

  pub parts_bound : (packs : Bool) → Vector → Parts → (m : ℕ) → ℕ
  parts_bound packs vector NoParts m = 0
  parts_bound packs vector (PartThen name order type constraint rest) m =
      (link_bound vector + capacity_bound packs vector type m) + parts_bound packs vector rest m

  pub greatest_bound : (packs : Bool) → Vector → Parts → (m : ℕ) → ℕ
  greatest_bound packs vector NoParts m = 0
  greatest_bound packs vector (PartThen name order type constraint rest) m =
      max (link_bound vector + capacity_bound packs vector type m) (greatest_bound packs vector rest m)

-- how much of a vector a slot takes at most: up to 4 bytes, since a packed number of up to 64 bits has two slots, its
-- own and that of its link
abbrev pub slot_takes : Vector → ℕ
slot_takes NodesOf = 1
slot_takes FamiliesOf = 1
slot_takes LinksOf = 1
slot_takes PendingOf = 1
slot_takes TextsOf = 1
slot_takes BytesOf = 4
