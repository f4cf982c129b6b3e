-- The entries of a store's vectors, and the values that they hold.
use Rattle.std.specs.Prelude.{◌≡◌, ℕ, zero, suc, ◌+◌, ◌-◌, ◌*◌, ◌/◌, ◌^◌, ◌<◌, ◌≤◌, ℤ, pos, Bool, true, false, List, [], ◌∷◌, ◌++◌, Option, Some, None, length, take, drop, map, slice_get, slice_index, slice_index_or, All, FitsSigned}
use Rattle.std.specs.Int.{cast_signed, w64, FitsUnsigned}
use Rattle.value_store.specs.declared.store.room.Growth.{Growth}
use Rattle.value_store.specs.declared.store.room.Growth.TheVariants.{Free, Never, Within}
use Rattle.value_store.specs.declared.store.room.Room.{Room}
use Rattle.value_store.specs.declared.store.slots.Node.{Node}
use Rattle.value_store.specs.declared.store.slots.Family.{Family}
use Rattle.value_store.specs.declared.store.slots.Marks.{Marks}
use Rattle.value_store.specs.declared.store.slots.Shape.{Shape}
use Rattle.value_store.specs.declared.store.slots.Shape.TheVariants.{Integer, Offset, Text, Integers, Offsets, Records, Array, Struct, Union}
use Rattle.pickle_types.specs.declared.integer.IntegerType.{IntegerType}
use Rattle.pickle_meaning.specs.Arithmetic.{with_sign}
use Rattle.value_store.specs.Packed.{bytes_for, bytes_number, packed, numbers_in}
use Rattle.value_store.specs.Records.{records}
use Rattle.value_store.specs.Names.{Names, title_at, names_at, name_at}
use Rattle.pickle_meaning.specs.Values.{Label, IntegerLabel, OffsetLabel, TextLabel, ArrayLabel, StructLabel, UnionLabel, Value, Mapped, NoMembers, Levels, label_of, start_of, end_of, members_of, gathered, text_value}
use Rattle.value_store.specs.Takes.{Vector, of_vector, level_takes}

-- the vectors of a store, each as a list
pub record Slots : Type 0 where
  pub nodes : List Node
  pub families : List Family
  pub links : List (Option ℕ)
  pub pending : List (Option ℕ)
  -- where the bytes of each text end
  pub texts : List ℕ
  pub bytes : List ℕ

abbrev pub no_slots : Slots
no_slots = record { nodes = []; families = []; links = []; pending = []; texts = []; bytes = [] }

-- a store: its slots, the marks of the open values, the innermost first, the slots that it was made with, and the
-- capacity of its vectors
pub record Held : Type 0 where
  pub slots : Slots
  pub frames : List Marks
  pub room : Room
  pub capacity : Marks

-- capacity for at least n slots of each kind; it grows where there is memory
abbrev pub growing : ℕ → Room
growing n = record { least = n; growth = Free }

-- capacity for exactly n slots of each kind; it never grows
abbrev pub fixed : ℕ → Room
fixed n = record { least = n; growth = Never }

-- what is stored weighs at most so many bytes
abbrev pub weighing : (most : ℕ) → Room
weighing most = record { least = 0; growth = Within most }

-- Whether arrays of numbers are packed: where no capacity was requested in advance, and where the weight is bounded.
-- Otherwise each value takes slots that are counted.
abbrev pub packs_as : Growth → (least : ℕ) → Bool
packs_as Never least = false
packs_as Free zero = true
packs_as Free (suc least) = false
packs_as (Within most) least = true

abbrev pub packs : Room → Bool
packs room = packs_as room.growth room.least

abbrev pub empty : Room → (capacity : Marks) → Held
empty room capacity = record { slots = no_slots; frames = []; room = room; capacity = capacity }

-- an emptied store, with the capacity that it had
abbrev pub emptied : Held → Held
emptied h = empty h.room h.capacity

-- the same store, perhaps with other capacities
abbrev pub Regrown : (before after : Held) → Type 0
Regrown before after = after ≡ record before { capacity = after.capacity }

-- the same store with these slots
abbrev pub HasSlots : (before after : Held) → Slots → Type 0
HasSlots before after slots = Regrown (record before { slots = slots }) after

-- the store was made with the same slots, and no vector has less capacity than before
pub record KeepsRoom (before after : Held) : Type 0 where
  pub room : after.room ≡ before.room
  pub nodes : before.capacity.nodes ≤ after.capacity.nodes
  pub families : before.capacity.families ≤ after.capacity.families
  pub links : before.capacity.links ≤ after.capacity.links
  pub pending : before.capacity.pending ≤ after.capacity.pending
  pub texts : before.capacity.texts ≤ after.capacity.texts
  pub bytes : before.capacity.bytes ≤ after.capacity.bytes

-- each vector has at most as many entries as its capacity
pub record HoldsInRoom (h : Held) : Type 0 where
  pub nodes : length h.slots.nodes ≤ h.capacity.nodes
  pub families : length h.slots.families ≤ h.capacity.families
  pub links : length h.slots.links ≤ h.capacity.links
  pub pending : length h.slots.pending ≤ h.capacity.pending
  pub texts : length h.slots.texts ≤ h.capacity.texts
  pub bytes : length h.slots.bytes ≤ h.capacity.bytes

-- `count` elements from `first` on
abbrev pub part : {A : Type 0} → ℕ → ℕ → List A → List A
part first count xs = take count (drop first xs)

abbrev pub family_at : List Family → ℕ → Family
family_at fs k = slice_index_or fs k (record { end = 0; size = 0 })

-- a family's links begin where those of the family before it end
abbrev pub first_link : List Family → ℕ → ℕ
first_link fs zero = 0
first_link fs (suc k) = (family_at fs k).end

abbrev pub family_links : List Family → List (Option ℕ) → ℕ → List (Option ℕ)
family_links fs ls k = part (first_link fs k) ((family_at fs k).end - first_link fs k) ls

-- a text's bytes begin where those of the text before it end
abbrev pub first_byte : List ℕ → ℕ → ℕ
first_byte es zero = 0
first_byte es (suc k) = slice_index es k

abbrev pub text_bytes : List ℕ → List ℕ → ℕ → List ℕ
text_bytes es bs k = part (first_byte es k) (slice_index es k - first_byte es k) bs

-- the numbers of `width` bits each among the bytes of a row
abbrev pub row_numbers : Slots → (width : ℕ) → ℕ → List ℕ
row_numbers s width c = numbers_in width (text_bytes s.texts s.bytes c)

-- how many packed structs of `stride` bytes each are among the bytes of a row
abbrev pub record_count : Slots → (stride : ℕ) → ℕ → ℕ
record_count s stride c = length (text_bytes s.texts s.bytes c) / stride

-- an array of packed numbers, one after the other
abbrev pub IsPacked : Shape → Type 0
IsPacked (Integer w g) = ⊥
IsPacked (Offset w g u) = ⊥
IsPacked Text = ⊥
IsPacked (Integers w g) = (1 ≤ w) × (w ≤ 64)
IsPacked (Offsets w g u) = (1 ≤ w) × (w ≤ 64) × (1 ≤ u)
IsPacked (Records stride size) = ⊥
IsPacked Array = ⊥
IsPacked (Struct t) = ⊥
IsPacked (Union t i) = ⊥

-- the width of an element in bits
abbrev pub element_width : Shape → ℕ
element_width (Integer w g) = 0
element_width (Offset w g u) = 0
element_width Text = 0
element_width (Integers w g) = w
element_width (Offsets w g u) = w
element_width (Records stride size) = 0
element_width Array = 0
element_width (Struct t) = 0
element_width (Union t i) = 0

-- a value for places that have none
abbrev pub no_value : Value
no_value = Mapped ArrayLabel 0 0 NoMembers

-- an element of these binary digits
abbrev pub element_value : Shape → (start digits : ℕ) → Value
element_value (Integer w g) start n = no_value
element_value (Offset w g u) start n = no_value
element_value Text start n = no_value
element_value (Integers w g) start n =
    let type : IntegerType = record { width = w; signed = g } in
    Mapped (IntegerLabel (with_sign type n) type) start (start + w) NoMembers
element_value (Offsets w g u) start n =
    let type : IntegerType = record { width = w; signed = g } in
    Mapped (OffsetLabel (with_sign type n) type u) start (start + w) NoMembers
element_value (Records stride size) start n = no_value
element_value Array start n = no_value
element_value (Struct t) start n = no_value
element_value (Union t i) start n = no_value

-- elements from the bit `start` on
abbrev pub elements : Shape → (start : ℕ) → List ℕ → List (Option Value)
elements shape start [] = []
elements shape start (n ∷ ns) = Some (element_value shape start n) ∷ elements shape (start + element_width shape) ns

-- an array of packed numbers
abbrev pub row_value : Shape → List ℕ → (start : ℕ) → Value
row_value shape numbers start =
    Mapped ArrayLabel start (start + element_width shape * length numbers) (gathered (elements shape start numbers))

-- the number that 64 binary digits are, with a sign or without
abbrev pub number_in : Bool → ℕ → ℤ
number_in true n = cast_signed w64 n
number_in false n = pos n

abbrev pub label_in : Names → Slots → Shape → ℕ → Label
label_in names s (Integer w g) c = IntegerLabel (number_in g c) (record { width = w; signed = g })
label_in names s (Offset w g u) c = OffsetLabel (number_in g c) (record { width = w; signed = g }) u
label_in names s Text c = TextLabel (text_bytes s.texts s.bytes c)
label_in names s (Integers w g) c = ArrayLabel
label_in names s (Offsets w g u) c = ArrayLabel
label_in names s (Records stride size) c = ArrayLabel
label_in names s Array c = ArrayLabel
label_in names s (Struct of) c = StructLabel (title_at names of) (names_at names of)
label_in names s (Union taken of) c = UnionLabel (title_at names of) taken (name_at names of taken)

abbrev pub size_in : Slots → Shape → ℕ → ℕ
size_in s (Integer w g) c = w
size_in s (Offset w g u) c = w
size_in s Text c = 8 * (slice_index s.texts c - first_byte s.texts c + 1)
size_in s (Integers w g) c = w * length (row_numbers s w c)
size_in s (Offsets w g u) c = w * length (row_numbers s w c)
size_in s (Records stride size) c = size * record_count s stride c
size_in s Array c = (family_at s.families c).size
size_in s (Struct t) c = (family_at s.families c).size
size_in s (Union t i) c = (family_at s.families c).size

abbrev pub links_of : Slots → Shape → ℕ → List (Option ℕ)
links_of s (Integer w g) c = []
links_of s (Offset w g u) c = []
links_of s Text c = []
links_of s (Integers w g) c = []
links_of s (Offsets w g u) c = []
links_of s (Records stride size) c = []
links_of s Array c = family_links s.families s.links c
links_of s (Struct t) c = family_links s.families s.links c
links_of s (Union t i) c = family_links s.families s.links c

-- a shape whose content is a family
abbrev pub IsComposite : Shape → Type 0
IsComposite (Integer w g) = ⊥
IsComposite (Offset w g u) = ⊥
IsComposite Text = ⊥
IsComposite (Integers w g) = ⊥
IsComposite (Offsets w g u) = ⊥
IsComposite (Records stride size) = ⊥
IsComposite Array = Unit {0}
IsComposite (Struct t) = Unit {0}
IsComposite (Union t i) = Unit {0}

abbrev pub composite_label : Names → Shape → Label
composite_label names (Integer w g) = ArrayLabel
composite_label names (Offset w g u) = ArrayLabel
composite_label names Text = ArrayLabel
composite_label names (Integers w g) = ArrayLabel
composite_label names (Offsets w g u) = ArrayLabel
composite_label names (Records stride size) = ArrayLabel
composite_label names Array = ArrayLabel
composite_label names (Struct of) = StructLabel (title_at names of) (names_at names of)
composite_label names (Union taken of) = UnionLabel (title_at names of) taken (name_at names of taken)

-- a shape whose content is a number, of 1 to 64 bits
abbrev pub IsNumber : Shape → Type 0
IsNumber (Integer w g) = (1 ≤ w) × (w ≤ 64)
IsNumber (Offset w g u) = (1 ≤ w) × (w ≤ 64) × (1 ≤ u)
IsNumber Text = ⊥
IsNumber (Integers w g) = ⊥
IsNumber (Offsets w g u) = ⊥
IsNumber (Records stride size) = ⊥
IsNumber Array = ⊥
IsNumber (Struct t) = ⊥
IsNumber (Union t i) = ⊥

abbrev pub number_value : Shape → ℕ → ℕ → Value
number_value (Integer w g) start c =
    Mapped (IntegerLabel (number_in g c) (record { width = w; signed = g })) start (start + w) NoMembers
number_value (Offset w g u) start c =
    Mapped (OffsetLabel (number_in g c) (record { width = w; signed = g }) u) start (start + w) NoMembers
number_value Text start c = no_value
number_value (Integers w g) start c = no_value
number_value (Offsets w g u) start c = no_value
number_value (Records stride size) start c = no_value
number_value Array start c = no_value
number_value (Struct t) start c = no_value
number_value (Union t i) start c = no_value

-- the value that a link refers to, among these values
abbrev pub opened : List Value → Option ℕ → Option Value
opened ts None = None
opened ts (Some i) = slice_get ts i

-- the last of some values
abbrev pub last_of : List Value → Value
last_of ts = slice_index_or ts (length ts - 1) no_value

-- The parts of a value from its start on, among the values before it: packed numbers, packed structs like the last
-- value, or the values that its links refer to.
abbrev pub parts_in : Slots → List Value → Shape → (start content : ℕ) → List (Option Value)
parts_in s ts (Integer w g) start c = []
parts_in s ts (Offset w g u) start c = []
parts_in s ts Text start c = []
parts_in s ts (Integers w g) start c = elements (Integers w g) start (row_numbers s w c)
parts_in s ts (Offsets w g u) start c = elements (Offsets w g u) start (row_numbers s w c)
parts_in s ts (Records stride size) start c =
    records (last_of ts) size stride 0 (record_count s stride c) (text_bytes s.texts s.bytes c)
parts_in s ts Array start c = map (opened ts) (family_links s.families s.links c)
parts_in s ts (Struct t) start c = map (opened ts) (family_links s.families s.links c)
parts_in s ts (Union t i) start c = map (opened ts) (family_links s.families s.links c)

-- the value of a node, after the values of the nodes before it
abbrev pub tree_of : Names → Slots → List Value → Node → Value
tree_of names s ts n =
    Mapped (label_in names s n.shape n.content) n.start (n.start + size_in s n.shape n.content)
    (gathered (parts_in s ts n.shape n.start n.content))

-- the values of nodes, after those of the nodes before them
abbrev pub trees_from : Names → Slots → List Value → List Node → List Value
trees_from names s ts [] = ts
trees_from names s ts (n ∷ ns) = trees_from names s (ts ++ tree_of names s ts n ∷ []) ns

unfoldable pub trees : Names → Slots → List Value
trees names s = trees_from names s [] s.nodes

-- the value of the node at a place
unfoldable pub value_at : Names → Slots → ℕ → Value
value_at names s i = slice_index_or (trees names s) i no_value

-- the pending children as values
unfoldable pub stack : Names → Slots → List (Option Value)
stack names s = map (opened (trees names s)) s.pending

-- each link refers to an earlier node
abbrev pub LinksBelow : ℕ → List (Option ℕ) → Type 0
LinksBelow k [] = Unit {0}
LinksBelow k (None ∷ ls) = LinksBelow k ls
LinksBelow k (Some i ∷ ls) = (i < k) × LinksBelow k ls

-- the entries of a family or a text are there
pub record IsRow (first end count : ℕ) : Type 0 where
  pub ordered : first ≤ end
  pub within : end ≤ count

abbrev pub IsFamily : Slots → ℕ → Type 0
IsFamily s c = (c < length s.families) × IsRow (first_link s.families c) (family_at s.families c).end (length s.links)

-- a text has fewer than 2 ^ 64 bits
abbrev pub IsShort : (count : ℕ) → Type 0
IsShort count = 8 * (count + 1) < 2 ^ 64

-- the bytes of a text are there
abbrev pub IsByteRow : Slots → ℕ → Type 0
IsByteRow s c = (c < length s.texts) × IsRow (first_byte s.texts c) (slice_index s.texts c) (length s.bytes)

abbrev pub IsTextRow : Slots → ℕ → Type 0
IsTextRow s c = IsByteRow s c × IsShort (slice_index s.texts c - first_byte s.texts c)

-- packed numbers of `width` bits each from the bit `start` on; they end before the bit 2 ^ 64
pub record AreNumbers (width : ℕ) (numbers : List ℕ) (start : ℕ) : Type 0 where
  pub some : 1 ≤ width
  pub most : width ≤ 64
  pub short : start + width * length numbers < 2 ^ 64
  pub below : All (λ n. n < 2 ^ width) numbers

-- packed structs of `size` bits and `stride` bytes each, from the bit `start` on; they end before the bit 2 ^ 64
pub record AreRecords (size stride : ℕ) (bytes : List ℕ) (start : ℕ) : Type 0 where
  pub some : 1 ≤ stride
  pub whole : stride * (length bytes / stride) ≡ length bytes
  pub short : start + size * (length bytes / stride) < 2 ^ 64

abbrev pub IsContent : Slots → Shape → (start content : ℕ) → Type 0
IsContent s (Integer w g) start c = IsNumber (Integer w g)
IsContent s (Offset w g u) start c = IsNumber (Offset w g u)
IsContent s Text start c = IsTextRow s c
IsContent s (Integers w g) start c = IsByteRow s c × AreNumbers w (row_numbers s w c) start
IsContent s (Offsets w g u) start c = IsByteRow s c × (AreNumbers w (row_numbers s w c) start × (1 ≤ u))
IsContent s (Records stride size) start c = IsByteRow s c × AreRecords size stride (text_bytes s.texts s.bytes c) start
IsContent s Array start c = IsFamily s c
IsContent s (Struct t) start c = IsFamily s c
IsContent s (Union t i) start c = IsFamily s c

-- the width of a number in bits
abbrev pub number_bits : Shape → ℕ
number_bits (Integer w g) = w
number_bits (Offset w g u) = w
number_bits Text = 0
number_bits (Integers w g) = 0
number_bits (Offsets w g u) = 0
number_bits (Records stride size) = 0
number_bits Array = 0
number_bits (Struct t) = 0
number_bits (Union t i) = 0

-- The node of a number that each of some packed structs has: its content is the place of the number's bytes among those
-- of a struct, and its start is that of the first struct's number.
pub record IsColumn (s : Slots) (size stride start : ℕ) (bytes : List ℕ) (j : ℕ) : Type 0 where
  pub node : Node
  pub found : slice_get s.nodes j ≡ Some node
  pub number : IsNumber node.shape
  pub fits : node.content + bytes_for (number_bits node.shape) ≤ stride
  pub within : node.start + number_bits node.shape ≤ start + size
  pub below : (i : ℕ) → i < length bytes / stride →
      bytes_number (part (stride * i + node.content) (bytes_for (number_bits node.shape)) bytes)
      < 2 ^ number_bits node.shape

-- the node of an array, a struct or a union that each of some packed structs has, or is; its start is that in the first
-- struct
pub record IsBranch (s : Slots) (size start : ℕ) (j : ℕ) : Type 0 where
  pub node : Node
  pub found : slice_get s.nodes j ≡ Some node
  pub composite : IsComposite node.shape
  pub family : IsFamily s node.content
  pub within : node.start + (family_at s.families node.content).size ≤ start + size

mutual
  -- the node at a place is a part of a template of packed structs, which are these bytes: a number, or an array, a
  -- struct or a union of such parts
  pub data IsTemplatePart (s : Slots) (size stride start : ℕ) (bytes : List ℕ) : ℕ → Type 0 where
    NumberPart : {j : ℕ} → IsColumn s size stride start bytes j → IsTemplatePart s size stride start bytes j
    BranchPart : {j : ℕ} (branch : IsBranch s size start j) →
        AreTemplateParts s size stride start bytes (family_links s.families s.links branch.node.content) →
        IsTemplatePart s size stride start bytes j

  -- so are the nodes that these links refer to
  pub data AreTemplateParts (s : Slots) (size stride start : ℕ) (bytes : List ℕ) : List (Option ℕ) → Type 0 where
    NoParts : AreTemplateParts s size stride start bytes []
    PartThen : {j : ℕ} {ls : List (Option ℕ)} → IsTemplatePart s size stride start bytes j →
        AreTemplateParts s size stride start bytes ls → AreTemplateParts s size stride start bytes (Some j ∷ ls)
    AbsentPartThen : {ls : List (Option ℕ)} → AreTemplateParts s size stride start bytes ls →
        AreTemplateParts s size stride start bytes (None ∷ ls)

-- The node right before an array of packed structs is the first of them, but for its numbers: a tree of any depth. The
-- place of a number's bytes is small, so that as a number it has no sign.
pub record IsTemplate (s : Slots) (i size stride start : ℕ) (bytes : List ℕ) : Type 0 where
  pub some : 1 ≤ i
  pub node : Node
  pub found : slice_get s.nodes (i - 1) ≡ Some node
  pub type : ℕ
  pub shape : node.shape ≡ Struct type
  pub begins : node.start ≡ start
  pub sized : (family_at s.families node.content).size ≡ size
  pub few : stride ≤ 2 ^ 16
  pub part : IsTemplatePart s size stride start bytes (i - 1)

-- an array of packed structs has a template
abbrev pub HasTemplate : Slots → (i : ℕ) → Shape → (start content : ℕ) → Type 0
HasTemplate s i (Records stride size) start c = IsTemplate s i size stride start (text_bytes s.texts s.bytes c)
HasTemplate s i shape start c = Unit {0}

pub record IsNodeAt (s : Slots) (i : ℕ) (n : Node) : Type 0 where
  pub content : IsContent s n.shape n.start n.content
  pub below : LinksBelow i (links_of s n.shape n.content)
  pub template : HasTemplate s i n.shape n.start n.content

abbrev pub AreNodesFrom : Slots → ℕ → List Node → Type 0
AreNodesFrom s i [] = Unit {0}
AreNodesFrom s i (n ∷ ns) = IsNodeAt s i n × AreNodesFrom s (i + 1) ns

-- nodes refer to rows that exist, and links to earlier nodes; the rows cover all links and bytes
pub record IsSound (s : Slots) : Type 0 where
  pub nodes : AreNodesFrom s 0 s.nodes
  pub pending : LinksBelow (length s.nodes) s.pending
  pub links : first_link s.families (length s.families) ≡ length s.links
  pub bytes : first_byte s.texts (length s.texts) ≡ length s.bytes

-- the slots up to some marks
abbrev pub cut_to : Marks → Slots → Slots
cut_to k s = record {
  nodes = take k.nodes s.nodes;
  families = take k.families s.families;
  links = take k.links s.links;
  pending = take k.pending s.pending;
  texts = take k.texts s.texts;
  bytes = take k.bytes s.bytes;
}

abbrev pub marks_of : Slots → Marks
marks_of s = record {
  nodes = length s.nodes;
  families = length s.families;
  links = length s.links;
  pending = length s.pending;
  texts = length s.texts;
  bytes = length s.bytes;
}

abbrev pub root_marks : Marks
root_marks = record { nodes = 0; families = 0; links = 0; pending = 0; texts = 0; bytes = 0 }

pub record IsWithin (k : Marks) (s : Slots) : Type 0 where
  pub nodes : k.nodes ≤ length s.nodes
  pub families : k.families ≤ length s.families
  pub links : k.links ≤ length s.links
  pub pending : k.pending ≤ length s.pending
  pub texts : k.texts ≤ length s.texts
  pub bytes : k.bytes ≤ length s.bytes

-- the parts of the value that was opened at some marks
abbrev pub level_of : Names → Marks → Slots → List (Option Value)
level_of names k s = drop k.pending (stack names s)

-- where there are no nodes after some marks, there are no families, links, texts and bytes
pub record HasNoRows (k : Marks) (s : Slots) : Type 0 where
  pub families : length s.families ≡ k.families
  pub links : length s.links ≡ k.links
  pub texts : length s.texts ≡ k.texts
  pub bytes : length s.bytes ≡ k.bytes

-- where nothing is packed, each vector has after some marks just what the parts of the open value take
pub record IsLevel (room : Room) (k : Marks) (s : Slots) : Type 0 where
  pub within : IsWithin k s
  pub takes : packs room ≡ false → (names : Names) (vector : Vector) →
      of_vector vector (marks_of s) ≡ of_vector vector k + level_takes false vector (level_of names k s)
  pub bare : length s.nodes ≡ k.nodes → HasNoRows k s

abbrev pub innermost : List Marks → Marks
innermost [] = root_marks
innermost (k ∷ ks) = k

abbrev pub AreLevels : Room → List Marks → Slots → Type 0
AreLevels room [] s = IsSound s × IsLevel room root_marks s
AreLevels room (k ∷ ks) s = IsSound s × (IsLevel room k s × AreLevels room ks (cut_to k s))

abbrev pub levels_at : Names → List Marks → Slots → Levels
levels_at names [] s = level_of names root_marks s ∷ []
levels_at names (k ∷ ks) s = level_of names k s ∷ levels_at names ks (cut_to k s)

-- the frames of a store, with the names of a table
unfoldable pub levels : Names → Held → Levels
levels names h = levels_at names h.frames h.slots

-- how many frames there are: one for each open value, and one for the whole
abbrev pub level_count : Held → ℕ
level_count h = 1 + length h.frames

-- u is s with these values pushed; where nothing is packed, each vector has just what they take more
pub record Adds (room : Room) (s u : Slots) (vs : Names → List (Option Value)) : Type 0 where
  pub sound : IsSound u
  pub rest : cut_to (marks_of s) u ≡ s
  pub stack : (names : Names) → stack names u ≡ stack names s ++ vs names
  pub takes : packs room ≡ false → (names : Names) (vector : Vector) →
      of_vector vector (marks_of u) ≡ of_vector vector (marks_of s) + level_takes false vector (vs names)
  pub bare : length u.nodes ≡ length s.nodes → HasNoRows (marks_of s) u

-- a new node without children
abbrev pub with_leaf : Shape → ℕ → ℕ → Slots → Slots
with_leaf shape start content s = record {
  nodes = s.nodes ++ record { start = start; content = content; shape = shape } ∷ [];
  families = s.families;
  links = s.links;
  pending = s.pending ++ Some (length s.nodes) ∷ [];
  texts = s.texts;
  bytes = s.bytes;
}

-- a new node whose children are the pending ones above a mark
abbrev pub with_family : Shape → ℕ → ℕ → ℕ → Slots → Slots
with_family shape start size mark s = record {
  nodes = s.nodes ++ record { start = start; content = length s.families; shape = shape } ∷ [];
  families = s.families ++ record { end = length s.links + (length s.pending - mark); size = size } ∷ [];
  links = s.links ++ drop mark s.pending;
  pending = take mark s.pending ++ Some (length s.nodes) ∷ [];
  texts = s.texts;
  bytes = s.bytes;
}

-- a new text, or an array of packed numbers, of these bytes
abbrev pub with_bytes : Shape → List ℕ → ℕ → Slots → Slots
with_bytes shape bytes start s = record {
  nodes = s.nodes ++ record { start = start; content = length s.texts; shape = shape } ∷ [];
  families = s.families;
  links = s.links;
  pending = s.pending ++ Some (length s.nodes) ∷ [];
  texts = s.texts ++ (length s.bytes + length bytes) ∷ [];
  bytes = s.bytes ++ bytes;
}

-- an absent field
abbrev pub with_absent : Slots → Slots
with_absent s = record s { pending = s.pending ++ None ∷ [] }

-- more bytes at the end of the last text or array of packed numbers
abbrev pub with_more : List ℕ → Slots → Slots
with_more more s = record {
  nodes = s.nodes;
  families = s.families;
  links = s.links;
  pending = s.pending;
  texts = take (length s.texts - 1) s.texts ++ length (s.bytes ++ more) ∷ [];
  bytes = s.bytes ++ more;
}

-- the bytes of whole packed numbers
abbrev pub AreNumberBytes : (width : ℕ) → List ℕ → (start : ℕ) → Type 0
AreNumberBytes width bytes start =
    AreNumbers width (numbers_in width bytes) start × (bytes_for width * length (numbers_in width bytes) ≡ length bytes)

-- the bytes that a text is, or an array of packed numbers
abbrev pub AreBytes : Shape → List ℕ → (start : ℕ) → Type 0
AreBytes (Integer w g) bytes start = ⊥
AreBytes (Offset w g u) bytes start = ⊥
AreBytes Text bytes start = IsShort (length bytes)
AreBytes (Integers w g) bytes start = AreNumberBytes w bytes start
AreBytes (Offsets w g u) bytes start = AreNumberBytes w bytes start × (1 ≤ u)
AreBytes (Records stride size) bytes start = ⊥
AreBytes Array bytes start = ⊥
AreBytes (Struct t) bytes start = ⊥
AreBytes (Union t i) bytes start = ⊥

-- the value of these bytes
abbrev pub bytes_value : Shape → List ℕ → (start : ℕ) → Value
bytes_value (Integer w g) bytes start = no_value
bytes_value (Offset w g u) bytes start = no_value
bytes_value Text bytes start = text_value bytes start (start + 8 * (length bytes + 1))
bytes_value (Integers w g) bytes start = row_value (Integers w g) (numbers_in w bytes) start
bytes_value (Offsets w g u) bytes start = row_value (Offsets w g u) (numbers_in w bytes) start
bytes_value (Records stride size) bytes start = no_value
bytes_value Array bytes start = no_value
bytes_value (Struct t) bytes start = no_value
bytes_value (Union t i) bytes start = no_value

-- an array of packed numbers has some; without numbers it is stored like other arrays
abbrev pub AreSome : Shape → List ℕ → Type 0
AreSome (Integer w g) bytes = Unit {0}
AreSome (Offset w g u) bytes = Unit {0}
AreSome Text bytes = Unit {0}
AreSome (Integers w g) bytes = 0 < length bytes
AreSome (Offsets w g u) bytes = 0 < length bytes
AreSome (Records stride size) bytes = Unit {0}
AreSome Array bytes = Unit {0}
AreSome (Struct t) bytes = Unit {0}
AreSome (Union t i) bytes = Unit {0}

-- numbers and structs of them are packed only where slots aren't counted
abbrev pub MayKeep : Room → Shape → Type 0
MayKeep room (Integers w g) = packs room ≡ true
MayKeep room (Offsets w g u) = packs room ≡ true
MayKeep room (Records stride size) = packs room ≡ true
MayKeep room shape = Unit {0}

-- a store whose innermost open value had no parts, after these bytes of a text or of packed numbers
abbrev pub written : Shape → List ℕ → ℕ → Slots → Slots
written shape [] start s = s
written shape (b ∷ bytes) start s = with_bytes shape (b ∷ bytes) start s

-- the innermost open value has these bytes so far; it has no node before its first byte
pub record IsFilling (names : Names) (h : Held) (shape : Shape) (bytes : List ℕ) (start : ℕ)
    (outer : Levels) : Type 0 where
  pub before : Slots
  pub is : h.slots ≡ written shape bytes start before
  pub own : AreLevels h.room h.frames before
  pub above : levels_at names h.frames before ≡ [] ∷ outer
  pub none : length before.nodes ≡ (innermost h.frames).nodes
  pub are : AreBytes shape bytes start
  pub may : MayKeep h.room shape

-- the innermost open value is a text with these bytes so far
abbrev pub IsWriting : Names → Held → List ℕ → (start : ℕ) → Levels → Type 0
IsWriting names h bytes start outer = IsFilling names h Text bytes start outer

-- the innermost open value is an array of packed numbers with these numbers so far
pub record IsPacking (names : Names) (h : Held) (shape : Shape) (numbers : List ℕ) (start : ℕ)
    (outer : Levels) : Type 0 where
  pub filling : IsFilling names h shape (packed (bytes_for (element_width shape)) numbers) start outer
  pub below : All (λ n. n < 2 ^ element_width shape) numbers

-- the innermost open value has no node yet
abbrev pub HasNoNode : Held → Type 0
HasNoNode h = length h.slots.nodes ≡ (innermost h.frames).nodes

-- a text that begins at `start` is open
pub record IsText (h : Held) (start : ℕ) : Type 0 where
  pub names : Names
  pub bytes : List ℕ
  pub outer : Levels
  pub writing : IsWriting names h bytes start outer

-- an array of packed numbers that begins at `start` is open
pub record IsRowOf (h : Held) (shape : Shape) (start : ℕ) : Type 0 where
  pub names : Names
  pub numbers : List ℕ
  pub outer : Levels
  pub packing : IsPacking names h shape numbers start outer

-- the open value may have these bytes next
pub record GoesOn (h : Held) (shape : Shape) (more : List ℕ) : Type 0 where
  pub names : Names
  pub bytes : List ℕ
  pub start : ℕ
  pub outer : Levels
  pub filling : IsFilling names h shape bytes start outer
  pub some : 0 < length bytes
  pub are : AreBytes shape (bytes ++ more) start

-- the open text may have one more byte
pub record TakesByte (h : Held) (start : ℕ) : Type 0 where
  pub names : Names
  pub bytes : List ℕ
  pub outer : Levels
  pub writing : IsWriting names h bytes start outer
  pub short : IsShort (length bytes + 1)

-- the open array of packed numbers may have one more number
pub record TakesNumber (h : Held) (shape : Shape) (start : ℕ) : Type 0 where
  pub names : Names
  pub numbers : List ℕ
  pub outer : Levels
  pub packing : IsPacking names h shape numbers start outer
  pub short : start + element_width shape * (length numbers + 1) < 2 ^ 64

-- a number that 64 binary digits can be
abbrev pub IsContentNumber : Bool → ℤ → Type 0
IsContentNumber true z = FitsSigned w64 z
IsContentNumber false z = FitsUnsigned w64 z

-- n entries of each vector
abbrev pub each_of : ℕ → Marks
each_of n = record { nodes = n; families = n; links = n; pending = n; texts = n; bytes = n }

-- each vector has a capacity of exactly n
pub record AreAll (n : ℕ) (capacity : Marks) : Type 0 where
  pub nodes : capacity.nodes ≡ n
  pub families : capacity.families ≡ n
  pub links : capacity.links ≡ n
  pub pending : capacity.pending ≡ n
  pub texts : capacity.texts ≡ n
  pub bytes : capacity.bytes ≡ n

-- What holds of a store: each vector has at least the capacity that the store was made with, and exactly that where it
-- never grows.
pub record IsStore (h : Held) : Type 0 where
  pub levels : AreLevels h.room h.frames h.slots
  pub nodes : h.room.least ≤ h.capacity.nodes
  pub families : h.room.least ≤ h.capacity.families
  pub links : h.room.least ≤ h.capacity.links
  pub pending : h.room.least ≤ h.capacity.pending
  pub texts : h.room.least ≤ h.capacity.texts
  pub bytes : h.room.least ≤ h.capacity.bytes
  pub fixed : h.room.growth ≡ Never → AreAll h.room.least h.capacity

-- the marks of the values around the innermost open value
abbrev pub around : List Marks → List Marks
around [] = []
around (k ∷ ks) = ks

-- what a node says about its value
pub record IsRead (s : Slots) (i : ℕ) (n : Node) : Type 0 where
  pub label : (names : Names) → label_of (value_at names s i) ≡ label_in names s n.shape n.content
  pub start : (names : Names) → start_of (value_at names s i) ≡ n.start
  pub end : (names : Names) → end_of (value_at names s i) ≡ n.start + size_in s n.shape n.content
  pub members : (names : Names) →
      members_of (value_at names s i) ≡ gathered (parts_in s (take i (trees names s)) n.shape n.start n.content)
  pub content : IsContent s n.shape n.start n.content
  pub sound : IsSound s

-- the marks of a frame, counted from the innermost; those of the whole come last
abbrev pub marks_at : List Marks → ℕ → Marks
marks_at ks level = slice_index_or ks level root_marks

-- the end of a frame's parts among the pending children
abbrev pub level_end : List Marks → (count : ℕ) → ℕ → ℕ
level_end ks count zero = count
level_end ks count (suc n) = (marks_at ks n).pending
