-- Arrays whose elements are integers of one type.
use Rattle.std.specs.Prelude.{◌≡◌, ℕ, ◌+◌, ◌^◌, ◌<◌, ◌≤◌, List, [], ◌∷◌, Option, Some, None, IfSome, All, length, slice_get}
use Rattle.pickle_types.specs.declared.integer.IntegerType.{IntegerType}
use Rattle.pickle_types.specs.Table.{IsWidth}
use Rattle.pickle_meaning.specs.Arithmetic.{with_sign}
use Rattle.pickle_meaning.specs.Values.{Value, Mapped, Members, NoMembers, MemberThen, IntegerLabel, label_of, start_of, members_of, member_at}
use Rattle.value_store.specs.Labels.{number_of}
use Rattle.value_store.specs.Slots.{Slots, number_bits, IsNumber}
use Rattle.value_store.specs.declared.store.slots.Node.{Node}
use Rattle.value_store.specs.declared.store.slots.Shape.TheVariants.{Integer}

-- a value is an integer of a type
abbrev pub IsIntegerOf : IntegerType → Value → Type 0
IsIntegerOf type v = label_of v ≡ IntegerLabel (number_of (label_of v)) type

-- the present members are such integers
abbrev pub AreIntegersOf : IntegerType → Members → Type 0
AreIntegersOf type members = (i : ℕ) → IfSome (member_at members i) (IsIntegerOf type)

-- integers of a type from the bit `start` on, one after the other, whose binary digits are these bytes
abbrev pub byte_members : IntegerType → (start : ℕ) → List ℕ → Members
byte_members type start [] = NoMembers
byte_members type start (byte ∷ bytes) =
    MemberThen (Mapped (IntegerLabel (with_sign type byte) type) start (start + type.width) NoMembers)
    (byte_members type (start + type.width) bytes)

-- an array has such members, and their type has at most 8 bits
pub record AreBytesOf (type : IntegerType) (bytes : List ℕ) (array : Value) : Type 0 where
  pub width : IsWidth type
  pub most : type.width ≤ 8
  pub below : All (λ byte. byte < 2 ^ type.width) bytes
  pub members : members_of array ≡ byte_members type (start_of array) bytes

-- links lead to nodes of such integers, the first with this start and this content
abbrev pub AreNumbersAt : Slots → IntegerType → (start content : ℕ) → List (Option ℕ) → Type 0
AreNumbersAt s type start content [] = Unit {0}
AreNumbersAt s type start content (None ∷ ls) = ⊥
AreNumbersAt s type start content (Some j ∷ ls) =
    (slice_get s.nodes j
    ≡ Some (record { start = start; content = content; shape = Integer type.width type.signed }))
    × AreNumbersAt s type (start + type.width) (content + 1) ls

-- a number at that node ends before the bit 2 ^ 64, and its content is not the greatest of 64 bits
abbrev pub EndsEarly : Slots → (node : ℕ) → Type 0
EndsEarly s j = (n : Node) → slice_get s.nodes j ≡ Some n → IsNumber n.shape →
    (n.start + number_bits n.shape < 2 ^ 64) × (n.content + 1 < 2 ^ 64)

-- there are such links, and the type has at most 8 bits
pub record AreSideBySide (s : Slots) (type : IntegerType) (start content : ℕ) (links : List (Option ℕ)) : Type 0 where
  pub width : IsWidth type
  pub most : type.width ≤ 8
  pub some : 0 < length links
  pub numbers : AreNumbersAt s type start content links
