-- Structs side by side in bytes: their values, from that of a template.
use Rattle.std.specs.Prelude.{ℕ, zero, suc, ◌+◌, ℤ, List, [], ◌∷◌, Option, Some, take, drop, unsigned_abs}
use Rattle.pickle_types.specs.declared.integer.IntegerType.{IntegerType}
use Rattle.pickle_meaning.specs.Arithmetic.{with_sign}
use Rattle.pickle_meaning.specs.Values.{Label, IntegerLabel, OffsetLabel, TextLabel, ArrayLabel, StructLabel, UnionLabel, Value, Mapped, Members, NoMembers, MemberThen, AbsentThen}
use Rattle.value_store.specs.Packed.{bytes_for, bytes_number}

-- The number of a type whose bytes begin at a place of a struct's. The place is the number that the template has: the
-- content of its node.
abbrev pub number_read : IntegerType → (place : ℤ) → List ℕ → ℤ
number_read type place row = with_sign type (bytes_number (take (bytes_for type.width) (drop (unsigned_abs place) row)))

-- the label of a part of a struct of these bytes, from that of the template's part
abbrev pub label_read : Label → List ℕ → Label
label_read (IntegerLabel place type) row = IntegerLabel (number_read type place row) type
label_read (OffsetLabel place type unit) row = OffsetLabel (number_read type place row) type unit
label_read (TextLabel bytes) row = TextLabel bytes
label_read ArrayLabel row = ArrayLabel
label_read (StructLabel name fields) row = StructLabel name fields
label_read (UnionLabel name index alternative) row = UnionLabel name index alternative

-- a part of a template as it is in a struct of these bytes, moved by `shift` bits
abbrev mutual
  pub instance : Value → (shift : ℕ) → List ℕ → Value
  instance (Mapped label start end members) shift row =
      Mapped (label_read label row) (start + shift) (end + shift) (instances members shift row)

  pub instances : Members → (shift : ℕ) → List ℕ → Members
  instances NoMembers shift row = NoMembers
  instances (MemberThen v rest) shift row = MemberThen (instance v shift row) (instances rest shift row)
  instances (AbsentThen rest) shift row = AbsentThen (instances rest shift row)

-- `count` structs of `size` bits each, of `stride` bytes each
abbrev pub records : Value → (size stride shift count : ℕ) → List ℕ → List (Option Value)
records template size stride shift zero bytes = []
records template size stride shift (suc count) bytes =
    Some (instance template shift (take stride bytes))
    ∷ records template size stride (shift + size) count (drop stride bytes)
