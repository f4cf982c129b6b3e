-- Values and their printed forms, worked out by hand, against the definition.
use Rattle.std.proofs.Common.{◌≡◌, ℕ, pos, negsuc, refl, true, false, codes, [], ◌∷◌, Some, None}
use Rattle.std.specs.Fmt.{digits}
use Rattle.pickle_types.specs.declared.integer.IntegerType.{IntegerType}
use Rattle.pickle_meaning.specs.Values.{Value, Mapped, Label, IntegerLabel, OffsetLabel, TextLabel, ArrayLabel, StructLabel, UnionLabel, NoMembers, MemberThen, AbsentThen}
use Rattle.text_output.specs.declared.mode.Mode.TheVariants.{Flat}
use Rattle.value_text.specs.Printed.{printed}
use Rattle.text_output.specs.declared.style.Numbers.TheVariants.{Decimal}
use Rattle.value_text.specs.ValueText.{integer_text, string_text}
use Rattle.value_text.specs.StyledNumbers.{unit_in, offset_in}

abbrev unsigned_type : ℕ → IntegerType
unsigned_type width = record { width = width; signed = false }

abbrev signed_type : ℕ → IntegerType
signed_type width = record { width = width; signed = true }

-- a value without members
abbrev leaf : Label → Value
leaf label = Mapped label 0 0 NoMembers

abbrev byte : ℕ → Value
byte n = leaf (IntegerLabel (pos n) (unsigned_type 8))

abbrev word : ℕ → Value
word n = leaf (IntegerLabel (pos n) (unsigned_type 32))

plain_unsigned : integer_text (unsigned_type 32) (pos 1234) ≡ codes "1234U"
unfolding integer_text digits
plain_unsigned = refl

plain_signed : integer_text (signed_type 32) (negsuc 6) ≡ codes "-7"
unfolding integer_text digits
plain_signed = refl

no_number : integer_text (signed_type 32) (pos 0) ≡ codes "0"
unfolding integer_text digits
no_number = refl

unsigned_byte : integer_text (unsigned_type 8) (pos 5) ≡ codes "5UB"
unfolding integer_text digits
unsigned_byte = refl

signed_byte : integer_text (signed_type 8) (pos 5) ≡ codes "5B"
unfolding integer_text digits
signed_byte = refl

signed_half : integer_text (signed_type 16) (negsuc 1) ≡ codes "-2H"
unfolding integer_text digits
signed_half = refl

unsigned_half : integer_text (unsigned_type 16) (pos 515) ≡ codes "515UH"
unfolding integer_text digits
unsigned_half = refl

unsigned_long : integer_text (unsigned_type 64) (pos 18446744073709551615) ≡ codes "18446744073709551615UL"
unfolding integer_text digits
unsigned_long = refl

signed_long : integer_text (signed_type 64) (negsuc 0) ≡ codes "-1L"
unfolding integer_text digits
signed_long = refl

unsigned_nibble : integer_text (unsigned_type 4) (pos 2) ≡ codes "2UN"
unfolding integer_text digits
unsigned_nibble = refl

signed_nibble : integer_text (signed_type 4) (negsuc 7) ≡ codes "-8N"
unfolding integer_text digits
signed_nibble = refl

unsigned_cast : integer_text (unsigned_type 12) (pos 308) ≡ codes "(uint<12>) 308"
unfolding integer_text digits
unsigned_cast = refl

signed_cast : integer_text (signed_type 12) (negsuc 4) ≡ codes "(int<12>) -5"
unfolding integer_text digits
signed_cast = refl

bytes_offset : offset_in Decimal (signed_type 32) 8 (pos 3) ≡ codes "3#B"
unfolding offset_in unit_in integer_text digits
bytes_offset = refl

bits_offset : offset_in Decimal (unsigned_type 64) 1 (pos 20) ≡ codes "20UL#b"
unfolding offset_in unit_in integer_text digits
bits_offset = refl

other_offset : offset_in Decimal (unsigned_type 8) 16 (pos 2) ≡ codes "2UB#16"
unfolding offset_in unit_in integer_text digits
other_offset = refl

cast_offset : offset_in Decimal (signed_type 7) 4 (negsuc 1) ≡ codes "(int<7>) -2#4"
unfolding offset_in unit_in integer_text digits
cast_offset = refl

escapes : string_text (97 ∷ 34 ∷ 92 ∷ 10 ∷ 9 ∷ 7 ∷ 255 ∷ []) ≡ codes "\"a\\\"\\\\\\n\\t\\x07\\xff\""
unfolding string_text
escapes = refl

-- the ends of the plain bytes
ends : string_text (31 ∷ 32 ∷ 126 ∷ 127 ∷ []) ≡ codes "\"\\x1f ~\\x7f\""
unfolding string_text
ends = refl

no_string : string_text [] ≡ codes "\"\""
unfolding string_text
no_string = refl

empty_array : printed Flat (leaf ArrayLabel) ≡ codes "[]\n"
empty_array = refl

empty_struct : printed Flat (leaf (StructLabel (Some (codes "P")) [])) ≡ codes "P {}\n"
empty_struct = refl

pair : printed Flat (Mapped (StructLabel (Some (codes "P")) (Some (codes "a") ∷ Some (codes "b") ∷ [])) 0 72
    (MemberThen (byte 5)
    (MemberThen (Mapped ArrayLabel 8 72 (MemberThen (word 1) (MemberThen (word 2) NoMembers))) NoMembers)))
    ≡ codes "P {a=5UB,b=[1U,2U]}\n"
unfolding integer_text digits
pair = refl

-- the first field and the third are absent
absent : printed Flat (Mapped (StructLabel (Some (codes "T"))
    (Some (codes "f") ∷ Some (codes "x") ∷ Some (codes "y") ∷ Some (codes "z") ∷ [])) 0 16
    (AbsentThen (MemberThen (byte 0) (AbsentThen (MemberThen (byte 5) NoMembers)))))
    ≡ codes "T {x=0UB,z=5UB}\n"
unfolding integer_text digits
absent = refl

none_present : printed Flat (Mapped (StructLabel (Some (codes "P")) (Some (codes "f") ∷ [])) 0 0 (AbsentThen NoMembers))
    ≡ codes "P {}\n"
none_present = refl

-- a nameless field in a nameless struct
nameless : printed Flat (Mapped (StructLabel (Some (codes "T")) (Some (codes "n") ∷ Some (codes "body") ∷ [])) 0 24
    (MemberThen (byte 1) (MemberThen (Mapped (StructLabel None (Some (codes "d") ∷ None ∷ [])) 8 24
    (MemberThen (Mapped ArrayLabel 8 16 (MemberThen (byte 5) NoMembers)) (MemberThen (byte 6) NoMembers))) NoMembers)))
    ≡ codes "T {n=1UB,body=struct {d=[5UB],6UB}}\n"
unfolding integer_text digits
nameless = refl

-- unions show their alternatives
unions : printed Flat (Mapped (StructLabel (Some (codes "T")) (Some (codes "us") ∷ Some (codes "v") ∷ [])) 0 24
    (MemberThen (Mapped ArrayLabel 0 16
    (MemberThen (Mapped (UnionLabel (Some (codes "U")) 0 (Some (codes "a"))) 0 8 (MemberThen (byte 1) NoMembers))
    (MemberThen (Mapped (UnionLabel (Some (codes "U")) 1 (Some (codes "b"))) 8 16 (MemberThen (byte 2) NoMembers))
    NoMembers)))
    (MemberThen (Mapped (UnionLabel None 2 (Some (codes "c"))) 16 24 (MemberThen (byte 3) NoMembers)) NoMembers)))
    ≡ codes "T {us=[U {a=1UB},U {b=2UB}],v=union {c=3UB}}\n"
unfolding integer_text digits
unions = refl

string_and_offset : printed Flat
    (Mapped (StructLabel (Some (codes "T")) (Some (codes "s") ∷ Some (codes "o") ∷ [])) 0 32
    (MemberThen (leaf (TextLabel (codes "hi"))) (MemberThen (leaf (OffsetLabel (pos 3) (signed_type 32) 8)) NoMembers)))
    ≡ codes "T {s=\"hi\",o=3#B}\n"
unfolding integer_text offset_in unit_in string_text digits
string_and_offset = refl

-- a size in bytes, so many bytes, and a negative offset in units of 4 bits
sizes : printed Flat
    (Mapped (StructLabel (Some (codes "T")) (Some (codes "len") ∷ Some (codes "data") ∷ Some (codes "o") ∷ [])) 0 40
    (MemberThen (leaf (OffsetLabel (pos 2) (unsigned_type 8) 8))
    (MemberThen (Mapped ArrayLabel 8 24 (MemberThen (byte 170) (MemberThen (byte 187) NoMembers)))
    (MemberThen (leaf (OffsetLabel (negsuc 1) (signed_type 16) 4)) NoMembers))))
    ≡ codes "T {len=2UB#B,data=[170UB,187UB],o=-2H#4}\n"
unfolding integer_text offset_in unit_in digits
sizes = refl

-- an array of structs
elements : printed Flat (Mapped (StructLabel (Some (codes "A")) (Some (codes "es") ∷ Some (codes "z") ∷ [])) 0 24
    (MemberThen (Mapped ArrayLabel 0 16
    (MemberThen (Mapped (StructLabel (Some (codes "E")) (Some (codes "v") ∷ [])) 0 8 (MemberThen (byte 5) NoMembers))
    (MemberThen (Mapped (StructLabel (Some (codes "E")) (Some (codes "v") ∷ [])) 8 16 (MemberThen (byte 6) NoMembers))
    NoMembers)))
    (MemberThen (byte 0) NoMembers)))
    ≡ codes "A {es=[E {v=5UB},E {v=6UB}],z=0UB}\n"
unfolding integer_text digits
elements = refl
