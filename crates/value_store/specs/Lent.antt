-- The values borrowed from a store: those of its nodes, the elements of its arrays of packed numbers, and the packed
-- structs of its arrays with their parts.
use Rattle.std.specs.Prelude.{◌≡◌, ℕ, suc, ◌+◌, ◌-◌, ◌*◌, ◌<◌, ◌≤◌, ℤ, length, List, [], Option, Some, None, slice_get, slice_index}
use Rattle.value_store.specs.declared.store.slots.Node.{Node}
use Rattle.value_store.specs.declared.store.slots.Place.{Place}
use Rattle.value_store.specs.declared.store.slots.Place.TheVariants as place
use Rattle.value_store.specs.declared.store.slots.Shape.{Shape}
use Rattle.value_store.specs.declared.store.slots.Shape.TheVariants as shape
use Rattle.pickle_types.specs.declared.integer.IntegerType.{IntegerType}
use Rattle.pickle_meaning.specs.Arithmetic.{with_sign}
use Rattle.pickle_meaning.specs.Values.{Value, Mapped, NoMembers, Label, IntegerLabel, OffsetLabel, TextLabel, ArrayLabel, StructLabel, UnionLabel, label_of}
use Rattle.value_store.specs.Names.{Names, title_at, names_at, name_at}
use Rattle.value_store.specs.Packed.{bytes_for, bytes_number}
use Rattle.value_store.specs.Records.{instance}
use Rattle.value_store.specs.Slots.{Slots, no_value, value_at, part, text_bytes, row_numbers, record_count, element_width, element_value, number_bits, IsTemplatePart}
use Rattle.value_store.specs.Linked.{links_from}

-- the numbers of an array of packed numbers
abbrev pub numbers_of : Slots → Node → List ℕ
numbers_of s n = row_numbers s (element_width n.shape) n.content

abbrev pub element_in : Slots → Option Node → ℕ → Value
element_in s None i = no_value
element_in s (Some n) i = element_value n.shape (n.start + element_width n.shape * i) (slice_index (numbers_of s n) i)

-- the size of a packed struct in bits
abbrev pub record_size : Shape → ℕ
record_size (shape.Records stride size) = size
record_size shape = 0

-- the number of its bytes
abbrev pub record_stride : Shape → ℕ
record_stride (shape.Records stride size) = stride
record_stride shape = 0

-- the bytes of the packed struct at a place of the array that a node is
abbrev pub row_in : Slots → (array : Node) → ℕ → List ℕ
row_in s n i = part (record_stride n.shape * i) (record_stride n.shape) (text_bytes s.texts s.bytes n.content)

-- a part of the template of an array, as it is in the packed struct at a place
abbrev pub part_in : Names → Slots → (array : Option Node) → (index node : ℕ) → Value
part_in names s None i j = no_value
part_in names s (Some n) i j = instance (value_at names s j) (record_size n.shape * i) (row_in s n i)

-- the binary digits of a number of the packed struct at a place
abbrev pub part_digits : Slots → (array number : Node) → ℕ → ℕ
part_digits s n number i =
    bytes_number (part (record_stride n.shape * i + number.content) (bytes_for (number_bits number.shape))
    (text_bytes s.texts s.bytes n.content))

-- digits of a number of the packed struct at a place of the array that a node is
abbrev pub IsDigits : Slots → (array : ℕ) → (number : Node) → (index digits : ℕ) → Type 0
IsDigits s array number index digits =
    (n : Node) → slice_get s.nodes array ≡ Some n → digits ≡ part_digits s n number index

-- a number of these binary digits
abbrev pub numbered : Shape → (start digits : ℕ) → Value
numbered (shape.Integer w g) start n =
    let type : IntegerType = record { width = w; signed = g } in
    Mapped (IntegerLabel (with_sign type n) type) start (start + w) NoMembers
numbered (shape.Offset w g u) start n =
    let type : IntegerType = record { width = w; signed = g } in
    Mapped (OffsetLabel (with_sign type n) type u) start (start + w) NoMembers
numbered shape start n = no_value

-- how many packed structs an array of this shape has
abbrev pub struct_count : Slots → Shape → (content : ℕ) → ℕ
struct_count s (shape.Records stride size) c = record_count s stride c
struct_count s shape c = 0

-- how many packed numbers an array of this shape has
abbrev pub packed_count : Slots → Shape → (content : ℕ) → ℕ
packed_count s (shape.Integer w g) c = 0
packed_count s (shape.Offset w g u) c = 0
packed_count s shape.Text c = 0
packed_count s (shape.Integers w g) c = length (row_numbers s w c)
packed_count s (shape.Offsets w g u) c = length (row_numbers s w c)
packed_count s (shape.Records stride size) c = 0
packed_count s shape.Array c = 0
packed_count s (shape.Struct t) c = 0
packed_count s (shape.Union t i) c = 0

abbrev pub element_count : Slots → Option Node → ℕ
element_count s None = 0
element_count s (Some n) = packed_count s n.shape n.content

-- how many packed parts a value of this shape has: numbers or structs
abbrev pub part_count : Slots → Shape → (content : ℕ) → ℕ
part_count s (shape.Integer w g) c = 0
part_count s (shape.Offset w g u) c = 0
part_count s shape.Text c = 0
part_count s (shape.Integers w g) c = length (row_numbers s w c)
part_count s (shape.Offsets w g u) c = length (row_numbers s w c)
part_count s (shape.Records stride size) c = record_count s stride c
part_count s shape.Array c = 0
part_count s (shape.Struct t) c = 0
part_count s (shape.Union t i) c = 0

abbrev pub parts_at : Slots → Option Node → ℕ
parts_at s None = 0
parts_at s (Some n) = part_count s n.shape n.content

-- a node is a part of the template of an array, which has a packed struct at a place
abbrev pub IsPartIn : Slots → (array : Option Node) → (index node : ℕ) → Type 0
IsPartIn s None i j = ⊥
IsPartIn s (Some n) i j =
    (i < struct_count s n.shape n.content) × ∥ IsTemplatePart s (record_size n.shape) (record_stride n.shape) n.start
    (text_bytes s.texts s.bytes n.content) j ∥₁

abbrev pub IsPlace : Slots → Place → Type 0
IsPlace s (place.Node at) = at < length s.nodes
IsPlace s (place.Element array index) = index < element_count s (slice_get s.nodes array)
IsPlace s (place.Part array index node) = (node < array) × IsPartIn s (slice_get s.nodes array) index node

abbrev pub place_value : Names → Slots → Place → Value
place_value names s (place.Node at) = value_at names s at
place_value names s (place.Element array index) = element_in s (slice_get s.nodes array) index
place_value names s (place.Part array index node) = part_in names s (slice_get s.nodes array) index node

-- how many packed numbers or structs are parts of the value at a place
abbrev pub place_packed : Slots → Place → ℕ
place_packed s (place.Node at) = parts_at s (slice_get s.nodes at)
place_packed s (place.Element array index) = 0
place_packed s (place.Part array index node) = 0

-- the place of a packed part of an array
abbrev pub part_place : Shape → (array index : ℕ) → Place
part_place (shape.Records stride size) array index = place.Part array index (array - 1)
part_place shape array index = place.Element array index

abbrev pub place_of_part : Option Node → (array index : ℕ) → Place
place_of_part None array index = place.Element array index
place_of_part (Some n) array index = part_place n.shape array index

-- the place of a packed part of the value at a place
abbrev pub packed_place : Slots → Place → ℕ → Place
packed_place s (place.Node at) i = place_of_part (slice_get s.nodes at) at i
packed_place s (place.Element array index) i = place.Element array index
packed_place s (place.Part array index node) i = place.Part array index node

-- the links to the parts of the value at a place
abbrev pub place_links : Slots → Place → List (Option ℕ)
place_links s (place.Node at) = links_from s at
place_links s (place.Element array index) = []
place_links s (place.Part array index node) = links_from s node

-- the place of the part that a link of the value at a place leads to
abbrev pub linked_place : Place → (node : ℕ) → Place
linked_place (place.Node at) node = place.Node node
linked_place (place.Element array index) node = place.Element array index
linked_place (place.Part array index at) node = place.Part array index node

-- a number that is smaller for each part of a value than for the value
abbrev pub place_rank : Place → ℕ
place_rank (place.Node at) = suc at
place_rank (place.Element array index) = 0
place_rank (place.Part array index node) = suc node

-- the label of a shape, with this number, or these bytes
abbrev pub shape_label : Names → Shape → ℤ → List ℕ → Label
shape_label names (shape.Integer w g) number bytes = IntegerLabel number (record { width = w; signed = g })
shape_label names (shape.Offset w g u) number bytes = OffsetLabel number (record { width = w; signed = g }) u
shape_label names shape.Text number bytes = TextLabel bytes
shape_label names (shape.Integers w g) number bytes = ArrayLabel
shape_label names (shape.Offsets w g u) number bytes = ArrayLabel
shape_label names (shape.Records stride size) number bytes = ArrayLabel
shape_label names shape.Array number bytes = ArrayLabel
shape_label names (shape.Struct of) number bytes = StructLabel (title_at names of) (names_at names of)
shape_label names (shape.Union taken of) number bytes = UnionLabel (title_at names of) taken (name_at names of taken)

-- a number has 1 to 64 bits, and an offset has a unit of at least one bit
abbrev pub HasWidth : Shape → Type 0
HasWidth (shape.Integer w g) = (1 ≤ w) × (w ≤ 64)
HasWidth (shape.Offset w g u) = (1 ≤ w) × (w ≤ 64) × (1 ≤ u)
HasWidth shape.Text = Unit {0}
HasWidth (shape.Integers w g) = Unit {0}
HasWidth (shape.Offsets w g u) = Unit {0}
HasWidth (shape.Records stride size) = Unit {0}
HasWidth shape.Array = Unit {0}
HasWidth (shape.Struct t) = Unit {0}
HasWidth (shape.Union t i) = Unit {0}

-- the value has the shape
pub record IsShapeOf (shape : Shape) (value : Names → Value) : Type 0 where
  pub number : ℤ
  pub bytes : List ℕ
  pub label : (names : Names) → label_of (value names) ≡ shape_label names shape number bytes
  pub width : HasWidth shape
