-- The number of slots of each kind that a mapping fills at a moment.
use Rattle.std.specs.Prelude.{ℕ, ◌+◌, length, List, [], ◌∷◌, Option, Some, None}
use Rattle.pickle_meaning.specs.Values.{Label, IntegerLabel, OffsetLabel, TextLabel, ArrayLabel, StructLabel, UnionLabel, Value, Mapped, Members, NoMembers, MemberThen, AbsentThen, member_count, Levels}

-- The kinds of slots: a node for each value, a link for each member of a value, a pending child for each member of a
-- frame (absent ones too), and a byte for each byte of a text.
pub data Slot : Type 0 where
  NodeSlot : Slot
  LinkSlot : Slot
  PendingSlot : Slot
  ByteSlot : Slot

abbrev pub text_length : Label → ℕ
text_length (IntegerLabel number type) = 0
text_length (OffsetLabel magnitude type unit) = 0
text_length (TextLabel bytes) = length bytes
text_length ArrayLabel = 0
text_length (StructLabel name fields) = 0
text_length (UnionLabel name index alternative) = 0

-- the slots of a value without its members
abbrev pub own_slots : Slot → Label → Members → ℕ
own_slots NodeSlot label _ = 1
own_slots LinkSlot label members = member_count members
own_slots PendingSlot label _ = 0
own_slots ByteSlot label _ = text_length label

abbrev mutual
  pub value_slots : Slot → Value → ℕ
  value_slots kind (Mapped label start end members) = own_slots kind label members + members_slots kind members

  pub members_slots : Slot → Members → ℕ
  members_slots kind NoMembers = 0
  members_slots kind (MemberThen v rest) = value_slots kind v + members_slots kind rest
  members_slots kind (AbsentThen rest) = members_slots kind rest

-- the slots of a member of a frame without its value
abbrev pub place_slots : Slot → ℕ
place_slots NodeSlot = 0
place_slots LinkSlot = 0
place_slots PendingSlot = 1
place_slots ByteSlot = 0

abbrev pub member_slots : Slot → Option Value → ℕ
member_slots kind None = place_slots kind
member_slots kind (Some v) = place_slots kind + value_slots kind v

abbrev pub level_slots : Slot → List (Option Value) → ℕ
level_slots kind [] = 0
level_slots kind (m ∷ rest) = member_slots kind m + level_slots kind rest

-- the slots of one kind that these frames fill
abbrev pub slots : Slot → Levels → ℕ
slots kind [] = 0
slots kind (top ∷ outer) = level_slots kind top + slots kind outer
