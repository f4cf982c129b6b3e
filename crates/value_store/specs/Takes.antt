-- How much of each vector of a store its frames take.
use Rattle.std.specs.Prelude.{ℕ, ◌+◌, ◌*◌, Bool, true, false, List, [], ◌∷◌, Option, Some, None}
use Rattle.value_store.specs.declared.store.slots.Marks.{Marks}
use Rattle.pickle_meaning.specs.Values.{Label, IntegerLabel, OffsetLabel, TextLabel, ArrayLabel, StructLabel, UnionLabel, Value, Mapped, Members, NoMembers, MemberThen, AbsentThen, Levels, label_of, member_count}
use Rattle.pickle_meaning.specs.Room.{text_length}
use Rattle.value_store.specs.Packed.{bytes_for}

-- the vectors of a store
pub data Vector : Type 0 where
  NodesOf : Vector
  FamiliesOf : Vector
  LinksOf : Vector
  PendingOf : Vector
  TextsOf : Vector
  BytesOf : Vector

-- the entry of some marks for a vector
abbrev pub of_vector : Vector → Marks → ℕ
of_vector NodesOf k = k.nodes
of_vector FamiliesOf k = k.families
of_vector LinksOf k = k.links
of_vector PendingOf k = k.pending
of_vector TextsOf k = k.texts
of_vector BytesOf k = k.bytes

-- the width of an integer or an offset, in bits
abbrev pub number_width : Label → Option ℕ
number_width (IntegerLabel number type) = Some type.width
number_width (OffsetLabel magnitude type unit) = Some type.width
number_width (TextLabel bytes) = None
number_width ArrayLabel = None
number_width (StructLabel name fields) = None
number_width (UnionLabel name index alternative) = None

-- the width of the numbers of a packed array: that of its first member
abbrev pub row_width : Members → Option ℕ
row_width NoMembers = None
row_width (MemberThen v rest) = number_width (label_of v)
row_width (AbsentThen rest) = None

abbrev pub where_packed : (packs : Bool) → Option ℕ → Option ℕ
where_packed true width = width
where_packed false width = None

-- the width of the packed numbers that a value of such a label and members is stored as
abbrev pub packed_width : (packs : Bool) → Label → Members → Option ℕ
packed_width packs (IntegerLabel number type) _ = None
packed_width packs (OffsetLabel magnitude type unit) _ = None
packed_width packs (TextLabel bytes) _ = None
packed_width packs ArrayLabel members = where_packed packs (row_width members)
packed_width packs (StructLabel name fields) _ = None
packed_width packs (UnionLabel name index alternative) _ = None

-- how many families and texts a value of a label takes
abbrev pub families_taken : Label → ℕ
families_taken (IntegerLabel number type) = 0
families_taken (OffsetLabel magnitude type unit) = 0
families_taken (TextLabel bytes) = 0
families_taken ArrayLabel = 1
families_taken (StructLabel name fields) = 1
families_taken (UnionLabel name index alternative) = 1

abbrev pub texts_taken : Label → ℕ
texts_taken (IntegerLabel number type) = 0
texts_taken (OffsetLabel magnitude type unit) = 0
texts_taken (TextLabel bytes) = 1
texts_taken ArrayLabel = 0
texts_taken (StructLabel name fields) = 0
texts_taken (UnionLabel name index alternative) = 0

-- what a value takes without its members: a node, and a link for each member
abbrev pub own_takes : Vector → Label → Members → ℕ
own_takes NodesOf label _ = 1
own_takes FamiliesOf label _ = families_taken label
own_takes LinksOf label members = member_count members
own_takes PendingOf label _ = 0
own_takes TextsOf label _ = texts_taken label
own_takes BytesOf label _ = text_length label

-- what an array of packed numbers takes: their bytes, as one text
abbrev pub row_takes : Vector → (width count : ℕ) → ℕ
row_takes NodesOf width count = 1
row_takes FamiliesOf width count = 0
row_takes LinksOf width count = 0
row_takes PendingOf width count = 0
row_takes TextsOf width count = 1
row_takes BytesOf width count = bytes_for width * count

-- what a value takes: as packed numbers, or its own and that of its members, which take `inside`
abbrev pub kept_as : Option ℕ → Vector → Label → Members → (inside : ℕ) → ℕ
kept_as None vector label members inside = own_takes vector label members + inside
kept_as (Some width) vector label members inside = row_takes vector width (member_count members)

abbrev mutual
  pub value_takes : (packs : Bool) → Vector → Value → ℕ
  value_takes packs vector (Mapped label start end members) =
      kept_as (packed_width packs label members) vector label members (members_take packs vector members)

  pub members_take : (packs : Bool) → Vector → Members → ℕ
  members_take packs vector NoMembers = 0
  members_take packs vector (MemberThen v rest) = value_takes packs vector v + members_take packs vector rest
  members_take packs vector (AbsentThen rest) = members_take packs vector rest

-- what a member of a frame takes without its value: a pending child
abbrev pub place_takes : Vector → ℕ
place_takes NodesOf = 0
place_takes FamiliesOf = 0
place_takes LinksOf = 0
place_takes PendingOf = 1
place_takes TextsOf = 0
place_takes BytesOf = 0

abbrev pub member_takes : (packs : Bool) → Vector → Option Value → ℕ
member_takes packs vector None = place_takes vector
member_takes packs vector (Some v) = place_takes vector + value_takes packs vector v

abbrev pub level_takes : (packs : Bool) → Vector → List (Option Value) → ℕ
level_takes packs vector [] = 0
level_takes packs vector (m ∷ rest) = member_takes packs vector m + level_takes packs vector rest

-- what frames take of a vector, in a store that packs arrays of numbers or in one that doesn't
abbrev pub levels_take : (packs : Bool) → Vector → Levels → ℕ
levels_take packs vector [] = 0
levels_take packs vector (top ∷ outer) = level_takes packs vector top + levels_take packs vector outer
