-- Values whose numbers are below 2^64 and whose bytes are below 256, as those of mapped values are.
use Rattle.std.specs.Prelude.{ℕ, ◌≤◌, ◌^◌, ◌<◌, List, [], ◌∷◌, Some, None, unsigned_abs}
use Rattle.pickle_meaning.specs.Values.{Naming, Label, IntegerLabel, OffsetLabel, TextLabel, ArrayLabel, StructLabel, UnionLabel, Value, Mapped, Members, NoMembers, MemberThen, AbsentThen, member_count}

-- each is below 256
abbrev pub AreBytes : List ℕ → Type 0
AreBytes [] = Unit {0}
AreBytes (byte ∷ bytes) = (byte < 2 ^ 8) × AreBytes bytes

-- a name has bytes below 256, if there is one
abbrev pub IsNameOfBytes : Naming → Type 0
IsNameOfBytes None = Unit {0}
IsNameOfBytes (Some name) = AreBytes name

abbrev pub AreNamesOfBytes : List Naming → Type 0
AreNamesOfBytes [] = Unit {0}
AreNamesOfBytes (name ∷ names) = IsNameOfBytes name × AreNamesOfBytes names

-- the numbers of a label are below 2^64, its bytes and those of names below 256, and its members are 2^64 at most
abbrev pub IsSmallLabel : Label → (count : ℕ) → Type 0
IsSmallLabel (IntegerLabel number type) count = unsigned_abs number < 2 ^ 64
IsSmallLabel (OffsetLabel magnitude type unit) count = (unsigned_abs magnitude < 2 ^ 64) × (unit < 2 ^ 64)
IsSmallLabel (TextLabel bytes) count = AreBytes bytes
IsSmallLabel ArrayLabel count = Unit {0}
IsSmallLabel (StructLabel name fields) count = (count ≤ 2 ^ 64) × AreNamesOfBytes fields
IsSmallLabel (UnionLabel name index alternative) count = (count ≤ 2 ^ 64) × IsNameOfBytes alternative

abbrev mutual
  pub HasSmallParts : Value → Type 0
  HasSmallParts (Mapped label start end members) = IsSmallLabel label (member_count members) × AreSmallParts members

  pub AreSmallParts : Members → Type 0
  AreSmallParts NoMembers = Unit {0}
  AreSmallParts (MemberThen value rest) = HasSmallParts value × AreSmallParts rest
  AreSmallParts (AbsentThen rest) = AreSmallParts rest

abbrev mutual
  -- no value has 2^64 members or more
  pub HasFewMembers : Value → Type 0
  HasFewMembers (Mapped label start end members) = (member_count members < 2 ^ 64) × HaveFewMembers members

  pub HaveFewMembers : Members → Type 0
  HaveFewMembers NoMembers = Unit {0}
  HaveFewMembers (MemberThen value rest) = HasFewMembers value × HaveFewMembers rest
  HaveFewMembers (AbsentThen rest) = HaveFewMembers rest
