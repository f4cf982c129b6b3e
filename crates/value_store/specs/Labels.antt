-- What the label of a value says about it.
use Rattle.std.specs.Prelude.{ℕ, zero, suc, ℤ, pos, Bool, false, List, [], Option, Some, None, slice_get, unwrap_or}
use Rattle.value_store.specs.declared.value.Kind.{Kind}
use Rattle.value_store.specs.declared.value.Kind.TheVariants.{Integer, Offset, Text, Array, Struct, Union}
use Rattle.pickle_meaning.specs.Values.{Naming, Label, IntegerLabel, OffsetLabel, TextLabel, ArrayLabel, StructLabel, UnionLabel}

abbrev pub kind_of : Label → Kind
kind_of (IntegerLabel number type) = Integer
kind_of (OffsetLabel magnitude type unit) = Offset
kind_of (TextLabel bytes) = Text
kind_of ArrayLabel = Array
kind_of (StructLabel name fields) = Struct
kind_of (UnionLabel name index alternative) = Union

-- the number of an integer, or the magnitude of an offset
abbrev pub number_of : Label → ℤ
number_of (IntegerLabel number type) = number
number_of (OffsetLabel magnitude type unit) = magnitude
number_of (TextLabel bytes) = pos 0
number_of ArrayLabel = pos 0
number_of (StructLabel name fields) = pos 0
number_of (UnionLabel name index alternative) = pos 0

abbrev pub signed_of : Label → Bool
signed_of (IntegerLabel number type) = type.signed
signed_of (OffsetLabel magnitude type unit) = type.signed
signed_of (TextLabel bytes) = false
signed_of ArrayLabel = false
signed_of (StructLabel name fields) = false
signed_of (UnionLabel name index alternative) = false

abbrev pub width_of : Label → ℕ
width_of (IntegerLabel number type) = type.width
width_of (OffsetLabel magnitude type unit) = type.width
width_of (TextLabel bytes) = 0
width_of ArrayLabel = 0
width_of (StructLabel name fields) = 0
width_of (UnionLabel name index alternative) = 0

abbrev pub unit_of : Label → ℕ
unit_of (IntegerLabel number type) = 0
unit_of (OffsetLabel magnitude type unit) = unit
unit_of (TextLabel bytes) = 0
unit_of ArrayLabel = 0
unit_of (StructLabel name fields) = 0
unit_of (UnionLabel name index alternative) = 0

abbrev pub bytes_of : Label → List ℕ
bytes_of (IntegerLabel number type) = []
bytes_of (OffsetLabel magnitude type unit) = []
bytes_of (TextLabel bytes) = bytes
bytes_of ArrayLabel = []
bytes_of (StructLabel name fields) = []
bytes_of (UnionLabel name index alternative) = []

-- the name that a struct or a union is printed with
abbrev pub name_of : Label → Naming
name_of (IntegerLabel number type) = None
name_of (OffsetLabel magnitude type unit) = None
name_of (TextLabel bytes) = None
name_of ArrayLabel = None
name_of (StructLabel name fields) = name
name_of (UnionLabel name index alternative) = name

-- the number of the alternative of a union that matched
abbrev pub taken_of : Label → Option ℕ
taken_of (IntegerLabel number type) = None
taken_of (OffsetLabel magnitude type unit) = None
taken_of (TextLabel bytes) = None
taken_of ArrayLabel = None
taken_of (StructLabel name fields) = None
taken_of (UnionLabel name index alternative) = Some index

-- the name of a union's only member, which is the alternative that matched
abbrev pub only_name : Naming → ℕ → Naming
only_name name zero = name
only_name name (suc i) = None

-- the name of the member at a place
abbrev pub member_name : Label → ℕ → Naming
member_name (IntegerLabel number type) i = None
member_name (OffsetLabel magnitude type unit) i = None
member_name (TextLabel bytes) i = None
member_name ArrayLabel i = None
member_name (StructLabel name fields) i = unwrap_or (slice_get fields i) None
member_name (UnionLabel name index alternative) i = only_name alternative i
