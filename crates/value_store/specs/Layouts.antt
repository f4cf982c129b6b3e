-- Values of fixed layout, which are trees of numbers, arrays and structs: the bytes of their numbers, and their
-- templates.
use Rattle.std.specs.Prelude.{◌≡◌, ℕ, zero, suc, ◌+◌, ◌^◌, ◌<◌, ◌≤◌, ℤ, pos, true, false, List, [], ◌∷◌, ◌++◌, take, drop, Option, Some, None}
use Rattle.value_store.specs.declared.store.slots.Shape.{Shape}
use Rattle.value_store.specs.declared.store.slots.Shape.TheVariants.{Integer, Offset, Text, Integers, Offsets, Records, Array, Struct, Union}
use Rattle.pickle_types.specs.declared.integer.IntegerType.{IntegerType}
use Rattle.pickle_types.specs.Table.{IsWidth}
use Rattle.pickle_meaning.specs.Arithmetic.{modulo, converted}
use Rattle.pickle_meaning.specs.Values.{Label, IntegerLabel, OffsetLabel, TextLabel, ArrayLabel, StructLabel, UnionLabel, Value, Mapped, Members, NoMembers, MemberThen, AbsentThen, end_of}
use Rattle.value_store.specs.Moves.{ValueSize, TemplateSize, Move, PacksValue}
use Rattle.value_store.specs.Packed.{bytes_for, number_bytes, bytes_number}
use Rattle.value_store.specs.Takes.{NodesOf, FamiliesOf, LinksOf, TextsOf, BytesOf, value_takes}

-- the bytes of a number of a type: its binary digits, in two's complement
abbrev pub digits_row : IntegerType → ℤ → List ℕ
digits_row type number = number_bytes (bytes_for type.width) (modulo type.width number)

-- the bytes of an integer or an offset; other values have none of their own
abbrev pub label_row : Label → List ℕ
label_row (IntegerLabel number type) = digits_row type number
label_row (OffsetLabel magnitude type unit) = digits_row type magnitude
label_row (TextLabel bytes) = []
label_row ArrayLabel = []
label_row (StructLabel name fields) = []
label_row (UnionLabel name index alternative) = []

-- how many these are
abbrev pub label_length : Label → ℕ
label_length (IntegerLabel number type) = bytes_for type.width
label_length (OffsetLabel magnitude type unit) = bytes_for type.width
label_length (TextLabel bytes) = 0
label_length ArrayLabel = 0
label_length (StructLabel name fields) = 0
label_length (UnionLabel name index alternative) = 0

-- the same label, with the place of its bytes as the number
abbrev pub label_place : Label → (at : ℕ) → Label
label_place (IntegerLabel number type) at = IntegerLabel (pos at) type
label_place (OffsetLabel magnitude type unit) at = OffsetLabel (pos at) type unit
label_place (TextLabel bytes) at = TextLabel bytes
label_place ArrayLabel at = ArrayLabel
label_place (StructLabel name fields) at = StructLabel name fields
label_place (UnionLabel name index alternative) at = UnionLabel name index alternative

abbrev mutual
  -- the bytes of the numbers of a value, in order
  pub row_of : Value → List ℕ
  row_of (Mapped label start end members) = label_row label ++ rows_of members

  pub rows_of : Members → List ℕ
  rows_of NoMembers = []
  rows_of (MemberThen v rest) = row_of v ++ rows_of rest
  rows_of (AbsentThen rest) = rows_of rest

abbrev mutual
  -- how many these are
  pub row_length : Value → ℕ
  row_length (Mapped label start end members) = label_length label + rows_length members

  pub rows_length : Members → ℕ
  rows_length NoMembers = 0
  rows_length (MemberThen v rest) = row_length v + rows_length rest
  rows_length (AbsentThen rest) = rows_length rest

abbrev mutual
  -- the same value, but each number is the place of its bytes, counted from `at`
  pub template_of : Value → (at : ℕ) → Value
  template_of (Mapped label start end members) at =
      Mapped (label_place label at) start end (templates_of members (at + label_length label))

  pub templates_of : Members → (at : ℕ) → Members
  templates_of NoMembers at = NoMembers
  templates_of (MemberThen v rest) at = MemberThen (template_of v at) (templates_of rest (at + row_length v))
  templates_of (AbsentThen rest) at = AbsentThen (templates_of rest at)

-- how much a value takes where arrays of numbers are packed
abbrev pub value_size : Value → ValueSize
value_size v = record {
  nodes = value_takes true NodesOf v;
  families = value_takes true FamiliesOf v;
  links = value_takes true LinksOf v;
  texts = value_takes true TextsOf v;
  bytes = value_takes true BytesOf v;
}

-- how much its template takes: nothing is packed in it
abbrev pub template_size : Value → TemplateSize
template_size v = record {
  nodes = value_takes false NodesOf v;
  families = value_takes false FamiliesOf v;
  links = value_takes false LinksOf v;
}

-- the move by which it becomes a struct of an array of packed structs
abbrev pub packs_value : Value → Move
packs_value v = PacksValue (value_size v) (template_size v) (row_length v)

-- a number in the range of its type, which takes just its bits
pub record IsFixedNumber (type : IntegerType) (number : ℤ) (start end : ℕ) (members : Members) : Type 0 where
  pub width : IsWidth type
  pub range : converted type number ≡ number
  pub bits : start + type.width ≡ end
  pub none : members ≡ NoMembers

-- a label of a value of fixed layout
abbrev pub IsFixedLabel : Label → (start end : ℕ) → Members → Type 0
IsFixedLabel (IntegerLabel number type) start end members = IsFixedNumber type number start end members
IsFixedLabel (OffsetLabel magnitude type unit) start end members =
    IsFixedNumber type magnitude start end members × (1 ≤ unit)
IsFixedLabel (TextLabel bytes) start end _ = ⊥
IsFixedLabel ArrayLabel start end _ = Unit {0}
IsFixedLabel (StructLabel name fields) start end _ = Unit {0}
IsFixedLabel (UnionLabel name index alternative) start end _ = ⊥

abbrev mutual
  -- a tree of numbers, arrays and structs, without absent members; each ends where the value around it does, or before
  pub IsFixed : Value → Type 0
  IsFixed (Mapped label start end members) = IsFixedLabel label start end members × AreFixed end members

  pub AreFixed : (end : ℕ) → Members → Type 0
  AreFixed end NoMembers = Unit {0}
  AreFixed end (MemberThen v rest) = (end_of v ≤ end) × (IsFixed v × AreFixed end rest)
  AreFixed end (AbsentThen rest) = ⊥

-- a struct
abbrev pub IsStructLabel : Label → Type 0
IsStructLabel (IntegerLabel number type) = ⊥
IsStructLabel (OffsetLabel magnitude type unit) = ⊥
IsStructLabel (TextLabel bytes) = ⊥
IsStructLabel ArrayLabel = ⊥
IsStructLabel (StructLabel name fields) = Unit {0}
IsStructLabel (UnionLabel name index alternative) = ⊥

-- the bytes at a place of a row are a number of so many bits
abbrev pub FitsBits : (width at : ℕ) → List ℕ → Type 0
FitsBits width at row = bytes_number (take (bytes_for width) (drop at row)) < 2 ^ width

abbrev pub FitsLabel : Label → (at : ℕ) → List ℕ → Type 0
FitsLabel (IntegerLabel number type) at row = FitsBits type.width at row
FitsLabel (OffsetLabel magnitude type unit) at row = FitsBits type.width at row
FitsLabel (TextLabel bytes) at row = Unit {0}
FitsLabel ArrayLabel at row = Unit {0}
FitsLabel (StructLabel name fields) at row = Unit {0}
FitsLabel (UnionLabel name index alternative) at row = Unit {0}

abbrev mutual
  -- a row has a number of its bits at the place of each number of a value, counted from `at`
  pub FitsRow : Value → (at : ℕ) → List ℕ → Type 0
  FitsRow (Mapped label start end members) at row =
      FitsLabel label at row × FitsRows members (at + label_length label) row

  pub FitsRows : Members → (at : ℕ) → List ℕ → Type 0
  FitsRows NoMembers at row = Unit {0}
  FitsRows (MemberThen v rest) at row = FitsRow v at row × FitsRows rest (at + row_length v) row
  FitsRows (AbsentThen rest) at row = FitsRows rest at row

-- the bytes of the first `count` members
abbrev pub rows_upto : Members → (count : ℕ) → List ℕ
rows_upto ms zero = []
rows_upto NoMembers (suc count) = []
rows_upto (MemberThen v rest) (suc count) = row_of v ++ rows_upto rest count
rows_upto (AbsentThen rest) (suc count) = rows_upto rest count

-- how many these are
abbrev pub length_upto : Members → (count : ℕ) → ℕ
length_upto ms zero = 0
length_upto NoMembers (suc count) = 0
length_upto (MemberThen v rest) (suc count) = row_length v + length_upto rest count
length_upto (AbsentThen rest) (suc count) = length_upto rest count

-- the templates of the first `count` members
abbrev pub templates_upto : Members → (count at : ℕ) → List (Option Value)
templates_upto ms zero at = []
templates_upto NoMembers (suc count) at = []
templates_upto (MemberThen v rest) (suc count) at =
    Some (template_of v at) ∷ templates_upto rest count (at + row_length v)
templates_upto (AbsentThen rest) (suc count) at = None ∷ templates_upto rest count at

-- the shape of no packed array
abbrev pub IsPlain : Shape → Type 0
IsPlain (Integer w g) = Unit {0}
IsPlain (Offset w g u) = Unit {0}
IsPlain Text = Unit {0}
IsPlain (Integers w g) = ⊥
IsPlain (Offsets w g u) = ⊥
IsPlain (Records stride size) = ⊥
IsPlain Array = Unit {0}
IsPlain (Struct t) = Unit {0}
IsPlain (Union t i) = Unit {0}
