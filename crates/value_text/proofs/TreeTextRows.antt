-- Values and their lines, worked out by hand, against the definition.
use Rattle.std.proofs.Common.{◌≡◌, ℕ, pos, negsuc, refl, false, true, codes, [], ◌∷◌, Some, None}
use Rattle.std.specs.Fmt.{digits}
use Rattle.pickle_meaning.specs.Values.{Value, Mapped, Label, IntegerLabel, OffsetLabel, TextLabel, ArrayLabel, StructLabel, UnionLabel, NoMembers, MemberThen, AbsentThen}
use Rattle.text_output.specs.declared.mode.Mode.TheVariants.{Tree}
use Rattle.value_text.specs.Printed.{printed}
use Rattle.value_text.specs.ValueText.{integer_text, string_text}
use Rattle.value_text.specs.StyledNumbers.{unit_in, offset_in}

-- a value without members
abbrev leaf : Label → Value
leaf label = Mapped label 0 0 NoMembers

abbrev byte : ℕ → Value
byte n = leaf (IntegerLabel (pos n) (record { width = 8; signed = false }))

an_integer : printed Tree (byte 5) ≡ codes "5UB\n"
unfolding integer_text digits
an_integer = refl

a_string : printed Tree (leaf (TextLabel (codes "a\nb"))) ≡ codes "\"a\\nb\"\n"
unfolding string_text
a_string = refl

an_empty_array : printed Tree (leaf ArrayLabel) ≡ codes "[0]\n"
unfolding digits
an_empty_array = refl

an_empty_struct : printed Tree (leaf (StructLabel (Some (codes "P")) [])) ≡ codes "P\n"
an_empty_struct = refl

-- elements are numbered from 0
an_array_of_structs : printed Tree
    (Mapped (StructLabel (Some (codes "A")) (Some (codes "es") ∷ Some (codes "z") ∷ [])) 0 24
    (MemberThen (Mapped ArrayLabel 0 16
    (MemberThen (Mapped (StructLabel (Some (codes "E")) (Some (codes "v") ∷ [])) 0 8 (MemberThen (byte 5) NoMembers))
    (MemberThen (Mapped (StructLabel (Some (codes "E")) (Some (codes "v") ∷ [])) 8 16 (MemberThen (byte 6) NoMembers))
    NoMembers)))
    (MemberThen (byte 0) NoMembers)))
    ≡ codes "A\n  es=[2]\n    [0]=E\n      v=5UB\n    [1]=E\n      v=6UB\n  z=0UB\n"
unfolding integer_text digits
an_array_of_structs = refl

-- a nameless struct that has a nameless field
nameless : printed Tree (Mapped (StructLabel (Some (codes "T")) (Some (codes "n") ∷ Some (codes "body") ∷ [])) 0 24
    (MemberThen (byte 1) (MemberThen (Mapped (StructLabel None (Some (codes "d") ∷ None ∷ [])) 8 24
    (MemberThen (Mapped ArrayLabel 8 16 (MemberThen (byte 5) NoMembers)) (MemberThen (byte 6) NoMembers))) NoMembers)))
    ≡ codes "T\n  n=1UB\n  body=struct\n    d=[1]\n      [0]=5UB\n    6UB\n"
unfolding integer_text digits
nameless = refl

-- the second field is absent
an_absent_field : printed Tree
    (Mapped (StructLabel (Some (codes "T")) (Some (codes "f") ∷ Some (codes "x") ∷ Some (codes "y") ∷ [])) 0 16
    (MemberThen (byte 0) (AbsentThen (MemberThen (byte 5) NoMembers))))
    ≡ codes "T\n  f=0UB\n  y=5UB\n"
unfolding integer_text digits
an_absent_field = refl

-- the second alternative matched, of a union with a name and of a nameless one
unions : printed Tree (Mapped (StructLabel None (Some (codes "u") ∷ None ∷ [])) 0 16
    (MemberThen (Mapped (UnionLabel (Some (codes "U")) 1 (Some (codes "b"))) 0 8 (MemberThen (byte 2) NoMembers))
    (MemberThen (Mapped (UnionLabel None 1 None) 8 16 (MemberThen (byte 3) NoMembers)) NoMembers)))
    ≡ codes "struct\n  u=U\n    b=2UB\n  union\n    3UB\n"
unfolding integer_text digits
unions = refl

-- an array of arrays, with an offset and a number below 0
arrays : printed Tree (Mapped ArrayLabel 0 32
    (MemberThen
    (Mapped ArrayLabel 0 16 (MemberThen (leaf (OffsetLabel (pos 3) (record { width = 8; signed = false }) 8))
    (MemberThen (leaf (IntegerLabel (negsuc 0) (record { width = 12; signed = true }))) NoMembers)))
    (MemberThen (leaf ArrayLabel) NoMembers)))
    ≡ codes "[2]\n  [0]=[2]\n    [0]=3UB#B\n    [1]=(int<12>) -1\n  [1]=[0]\n"
unfolding integer_text offset_in unit_in digits
arrays = refl
