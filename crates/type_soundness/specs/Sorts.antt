-- Values of types, outcomes of sorts, and frames that hold what is visible.
use Rattle.std.specs.Prelude.{◌≡◌, ℕ, ◌+◌, ◌-◌, ◌<◌, List, [], ◌∷◌, Option, Some, None, Result, Ok, Err, ℤ, ◌⊎◌, slice_get}
use Rattle.pickle_types.specs.Types.{PokeType, IntegerOf, OffsetOf, StringOf, ArrayOf, StructOf, IntegralOf, UnionOf, Fields, NoFields, FieldThen, Parts, NoParts, PartThen}
use Rattle.pickle_types.specs.Scopes.{Visible}
use Rattle.pickle_types.specs.Expressions.{Sort, TextLiteral, Typed}
use Rattle.pickle_meaning.specs.declared.faults.MapFaultKind.{MapFaultKind}
use Rattle.pickle_meaning.specs.declared.faults.MapFaultKind.TheVariants as fault
use Rattle.pickle_meaning.specs.Values.{Naming, Label, IntegerLabel, OffsetLabel, TextLabel, ArrayLabel, StructLabel, UnionLabel, Value, label_of, members_of, Members, NoMembers, MemberThen, AbsentThen, Levels, level_at}
use Rattle.pickle_meaning.specs.Means.{field_names, part_names}
use Rattle.pickle_meaning.specs.Evaluation.{Operand, AtPath, Plain}

-- members that are all present and have the property
abbrev pub AllThere : (Value → Type 0) → Members → Type 0
AllThere P NoMembers = Unit {0}
AllThere P (MemberThen v rest) = P v × AllThere P rest
AllThere P (AbsentThen rest) = ⊥

unfoldable mutual
  -- a value of a type: of its kind, with members of the types of its parts
  pub IsOfType : PokeType → Value → Type 0
  IsOfType (IntegerOf type) v = (number : ℤ) × (label_of v ≡ IntegerLabel number type)
  IsOfType (OffsetOf type unit) v = (magnitude : ℤ) × (label_of v ≡ OffsetLabel magnitude type unit)
  IsOfType StringOf v = (bytes : List ℕ) × (label_of v ≡ TextLabel bytes)
  IsOfType (ArrayOf element bound) v = (label_of v ≡ ArrayLabel) × AllThere (IsOfType element) (members_of v)
  IsOfType (StructOf name pinned fields) v =
      (label_of v ≡ StructLabel name (field_names fields)) × AreFields fields (members_of v)
  IsOfType (IntegralOf name type fields) v =
      (label_of v ≡ StructLabel name (part_names fields)) × AreParts fields (members_of v)
  IsOfType (UnionOf name alternatives) v =
      (index : ℕ) × (taken : Naming) × (label_of v ≡ UnionLabel name index taken)
      × IsAlternative alternatives 0 index taken (members_of v)

  -- a member for each field of a struct, of the field's type or absent
  pub AreFields : Fields → Members → Type 0
  AreFields NoFields NoMembers = Unit {0}
  AreFields NoFields (MemberThen v ms) = ⊥
  AreFields NoFields (AbsentThen ms) = ⊥
  AreFields (FieldThen name order type c l d rest) NoMembers = ⊥
  AreFields (FieldThen name order type c l d rest) (MemberThen v ms) = IsOfType type v × AreFields rest ms
  AreFields (FieldThen name order type c l d rest) (AbsentThen ms) = AreFields rest ms

  -- a member for each field of an integral struct
  pub AreParts : Parts → Members → Type 0
  AreParts NoParts NoMembers = Unit {0}
  AreParts NoParts (MemberThen v ms) = ⊥
  AreParts NoParts (AbsentThen ms) = ⊥
  AreParts (PartThen name order type c rest) NoMembers = ⊥
  AreParts (PartThen name order type c rest) (MemberThen v ms) = IsOfType type v × AreParts rest ms
  AreParts (PartThen name order type c rest) (AbsentThen ms) = ⊥

  -- one of the alternatives, which are numbered from `at` on, by its number and name, is the only member
  pub IsAlternative : Parts → (at index : ℕ) → Naming → Members → Type 0
  IsAlternative NoParts at index taken ms = ⊥
  IsAlternative (PartThen name order type c rest) at index taken ms =
      ((index ≡ at) × (taken ≡ name) × (v : Value) × (ms ≡ MemberThen v NoMembers) × IsOfType type v)
      ⊎ IsAlternative rest (at + 1) index taken ms

-- a computed integer or offset of a type
abbrev pub IsNumberOf : PokeType → Label → Type 0
IsNumberOf (IntegerOf type) label = (number : ℤ) × (label ≡ IntegerLabel number type)
IsNumberOf (OffsetOf type unit) label = (magnitude : ℤ) × (label ≡ OffsetLabel magnitude type unit)
IsNumberOf StringOf label = ⊥
IsNumberOf (ArrayOf element bound) label = ⊥
IsNumberOf (StructOf _ _ _) label = ⊥
IsNumberOf (IntegralOf _ _ _) label = ⊥
IsNumberOf (UnionOf name alternatives) label = ⊥

-- the value of an expression of a sort: a value at a path, or a computed integer, offset or text
abbrev pub IsOfSort : Sort → Operand → Type 0
IsOfSort TextLiteral (AtPath v) = ⊥
IsOfSort TextLiteral (Plain label) = (bytes : List ℕ) × (label ≡ TextLabel bytes)
IsOfSort (Typed type) (AtPath v) = IsOfType type v
IsOfSort (Typed type) (Plain label) = IsNumberOf type label

-- the faults that an expression may have
abbrev pub MayFault : MapFaultKind → Type 0
MayFault fault.Zero = Unit {0}
MayFault fault.Overflow = Unit {0}
MayFault fault.Absent = Unit {0}
MayFault fault.Index = Unit {0}
MayFault kind = ⊥

-- a value of a sort, or such a fault
abbrev pub IsOutcome : Sort → Result Operand MapFaultKind → Type 0
IsOutcome s (Ok x) = IsOfSort s x
IsOutcome s (Err kind) = MayFault kind

-- a member of a type, or an absent one
abbrev pub IsMember : PokeType → Option Value → Type 0
IsMember type None = Unit {0}
IsMember type (Some v) = IsOfType type v

-- the frame of a field, counted from the outermost of so many, has a member at the field's place, of its type or absent
pub record Holds (count : ℕ) (levels : Levels) (field : Visible) : Type 0 where
  pub inside : field.level < count
  pub member : Option Value
  pub kept : slice_get (level_at levels (count - 1 - field.level)) field.place ≡ Some member
  pub typed : IsMember field.type member

-- each visible field has its member in the frames
abbrev pub LevelsFit : List Visible → (count : ℕ) → Levels → Type 0
LevelsFit [] count levels = Unit {0}
LevelsFit (field ∷ seen) count levels = Holds count levels field × LevelsFit seen count levels
