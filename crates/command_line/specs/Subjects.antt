-- What a request maps: a type that the arguments name, the one that the head of an installed pickle says, or that of a
-- format that the file has.
use Rattle.std.specs.Prelude.{◌≡◌, ◌&&◌, ◌||◌, ◌==◌, ℕ, Bool, true, false, List, [], ◌∷◌, Option, Some, None, is_some, unwrap_or, nat_lt, length, not, string_bytes, codes}
use Rattle.std.specs.Char.{is_ascii_alphanumeric}
use Rattle.std.specs.List.{list_all}
use Rattle.std.specs.Str.{bytes_eq}
use Rattle.command_line.specs.Flags.{FlagIn}
use Rattle.command_line.specs.declared.subject.HeadType.{HeadType}
use Rattle.command_line.specs.declared.subject.HeadType.TheVariants.{Documented, Inside, Records}
use Rattle.command_line.specs.declared.subject.Subject.{Subject}
use Rattle.command_line.specs.declared.subject.Subject.TheVariants.{Named, ByHead, Identified}

-- a letter, a digit, `_` (95) or `-` (45)
abbrev pub is_name_byte : ℕ → Bool
is_name_byte byte = is_ascii_alphanumeric byte || (byte == 95 || byte == 45)

-- an argument names an installed pickle: a `+` (43), and its name of one byte or more
abbrev pub names_installed : List ℕ → Bool
names_installed [] = false
names_installed (byte ∷ name) = (byte == 43) && (nat_lt 0 (length name) && list_all is_name_byte name)

-- no type is named: the argument isn't given, or it is `-`
abbrev pub names_no_type : (type : Option (List ℕ)) → Bool
names_no_type None = true
names_no_type (Some word) = bytes_eq word (codes "-")

-- the type is the one that the head of an installed pickle says
abbrev pub is_by_head : (pickle : List ℕ) → (type : Option (List ℕ)) → Bool
is_by_head pickle type = names_installed pickle && names_no_type type

-- the arguments say which type is mapped: only beside an installed pickle it may be left out
abbrev pub has_type : (pickle : List ℕ) → (type : Option (List ℕ)) → Bool
has_type pickle type = is_some type || names_installed pickle

-- the words at the places of TYPE and of the argument after it. If there are too few, TYPE is left out: the word at its
-- place is the argument after it
abbrev pub type_before : (type after : Option (List ℕ)) → Option (List ℕ)
type_before type (Some word) = type
type_before type None = None

abbrev pub word_after : (type after : Option (List ℕ)) → Option (List ℕ)
word_after type (Some word) = Some word
word_after type None = type

-- the first of three words is a file alone: there is no other, and it doesn't name an installed pickle
abbrev pub is_file_alone : (first second third : Option (List ℕ)) → Bool
is_file_alone None second third = false
is_file_alone (Some word) None None = not (names_installed word)
is_file_alone (Some word) None (Some third) = false
is_file_alone (Some word) (Some second) third = false

-- the part of a head that says the type
abbrev pub is_inside : HeadType → Bool
is_inside Documented = false
is_inside Inside = true
is_inside Records = false

-- the pickle of a subject, if one is named
abbrev pub pickle_of : Subject → Option (List ℕ)
pickle_of (Named pickle name) = Some (string_bytes pickle)
pickle_of (ByHead pickle part) = Some (string_bytes pickle)
pickle_of Identified = None

-- what is mapped of a pickle, by the argument for the type
abbrev pub IsTypeOf : (pickle : List ℕ) → (type : Option (List ℕ)) → Subject → Type 0
IsTypeOf pickle type (Named _ name) = (is_by_head pickle type ≡ false) × (string_bytes name ≡ unwrap_or type [])
IsTypeOf pickle type (ByHead _ part) = is_by_head pickle type ≡ true
IsTypeOf pickle type Identified = ⊥

-- which type of a head is mapped, by the flag for the one inside other bytes
abbrev pub HasPart : (inside : Option (List ℕ)) → Subject → Type 0
HasPart inside (Named _ _) = Unit {0}
HasPart inside (ByHead _ part) = FlagIn inside (is_inside part)
HasPart inside Identified = Unit {0}

-- a type that a head says is this one of it
abbrev pub IsPartOfHead : HeadType → Subject → Type 0
IsPartOfHead wanted (Named _ _) = Unit {0}
IsPartOfHead wanted (ByHead _ part) = part ≡ wanted
IsPartOfHead wanted Identified = Unit {0}
