-- Values, and the frames in which they are built.
use Rattle.std.specs.Prelude.{ℕ, zero, suc, ◌+◌, ◌*◌, length, List, [], ◌∷◌, ◌++◌, Option, Some, None, ℤ, slice_get, unwrap_or}
use Rattle.pickle_types.specs.declared.integer.IntegerType.{IntegerType}

-- a name, if there is one
abbrev pub Naming : Type 0
Naming = Option (List ℕ)

-- what a value is without its place and its members
pub data Label : Type 0 where
  IntegerLabel : (number : ℤ) (type : IntegerType) → Label
  -- an offset: a magnitude, its integer type, and the unit in bits
  OffsetLabel : (magnitude : ℤ) (type : IntegerType) (unit : ℕ) → Label
  -- the bytes of a string, without the 0 that ends it
  TextLabel : (bytes : List ℕ) → Label
  ArrayLabel : Label
  -- a struct: the name that it is printed with, and the names of its declared fields
  StructLabel : (name : Naming) (fields : List Naming) → Label
  -- a union: the name that it is printed with, and the number and name of the alternative that matched
  UnionLabel : (name : Naming) (index : ℕ) (alternative : Naming) → Label

mutual
  -- a value from bit `start` to bit `end`
  pub data Value : Type 0 where
    Mapped : (label : Label) (start end : ℕ) (members : Members) → Value

  -- the elements of an array, the declared fields of a struct, each a value or absent, or the alternative of a union
  pub data Members : Type 0 where
    NoMembers : Members
    MemberThen : (value : Value) (rest : Members) → Members
    AbsentThen : (rest : Members) → Members

abbrev pub label_of : Value → Label
label_of (Mapped label start end _) = label

abbrev pub start_of : Value → ℕ
start_of (Mapped label start end _) = start

abbrev pub end_of : Value → ℕ
end_of (Mapped label start end _) = end

abbrev pub members_of : Value → Members
members_of (Mapped label start end members) = members

-- how many members there are, absent ones included
abbrev pub member_count : Members → ℕ
member_count NoMembers = 0
member_count (MemberThen value rest) = 1 + member_count rest
member_count (AbsentThen rest) = 1 + member_count rest

-- the member of that number, if there is one and it isn't absent
abbrev pub member_at : Members → ℕ → Option Value
member_at NoMembers i = None
member_at (MemberThen value rest) zero = Some value
member_at (MemberThen value rest) (suc i) = member_at rest i
member_at (AbsentThen rest) zero = None
member_at (AbsentThen rest) (suc i) = member_at rest i

-- The values seen from inside: the members so far of each array, struct and union that is being mapped, the innermost
-- first. A union's frame has its alternative alone, once that is mapped.
abbrev pub Levels : Type 0
Levels = List (List (Option Value))

-- nothing is open and nothing is built; the requested value goes into this one frame
abbrev pub no_values : Levels
no_values = [] ∷ []

-- one more member of the innermost value
abbrev pub pushed : Levels → Option Value → Levels
pushed [] v = (v ∷ []) ∷ []
pushed (top ∷ outer) v = (top ++ v ∷ []) ∷ outer

-- a frame without members inside the others
abbrev pub opened : Levels → Levels
opened levels = [] ∷ levels

abbrev pub top_of : Levels → List (Option Value)
top_of [] = []
top_of (top ∷ outer) = top

abbrev pub outer_of : Levels → Levels
outer_of [] = []
outer_of (top ∷ outer) = outer

-- the members of a frame, counted from the innermost
abbrev pub level_at : Levels → ℕ → List (Option Value)
level_at [] n = []
level_at (top ∷ outer) zero = top
level_at (top ∷ outer) (suc n) = level_at outer n

-- the member at a place of a frame, if there is one and it isn't absent
abbrev pub value_at : Levels → (level place : ℕ) → Option Value
value_at levels level place = unwrap_or (slice_get (level_at levels level) place) None

-- the members of a frame
abbrev pub gathered : List (Option Value) → Members
gathered [] = NoMembers
gathered (None ∷ rest) = AbsentThen (gathered rest)
gathered (Some v ∷ rest) = MemberThen v (gathered rest)

abbrev pub text_value : List ℕ → (start end : ℕ) → Value
text_value bytes start end = Mapped (TextLabel bytes) start end NoMembers

-- an open string: its bytes so far, as a text with its final 0, alone in its own frame
abbrev pub text_level : List ℕ → (start : ℕ) → Levels → Levels
text_level bytes start levels = (Some (text_value bytes start (start + 8 * (length bytes + 1))) ∷ []) ∷ levels
