-- Values and the lines of their parts that have no parts, worked out by hand, against the definition.
use Rattle.std.proofs.Common.{◌≡◌, ℕ, ◌+◌, pos, refl, false, codes, [], ◌∷◌, Some, None}
use Rattle.std.specs.Fmt.{digits}
use Rattle.pickle_meaning.specs.Values.{Value, Mapped, IntegerLabel, TextLabel, ArrayLabel, StructLabel, UnionLabel, NoMembers, MemberThen, AbsentThen}
use Rattle.text_output.specs.declared.mode.Mode.TheVariants.{Lines}
use Rattle.value_text.specs.Printed.{printed}
use Rattle.value_text.specs.ValueText.{integer_text, string_text}

abbrev byte_at : (start number : ℕ) → Value
byte_at start number =
    Mapped (IntegerLabel (pos number) (record { width = 8; signed = false })) start (start + 8) NoMembers

an_integer : printed Lines (byte_at 48 5) ≡ codes ".\t48#b\t8#b\t5UB\n"
unfolding integer_text digits
an_integer = refl

-- its size counts its final 0
a_string : printed Lines (Mapped (TextLabel (codes "a\tb")) 8 40 NoMembers) ≡ codes ".\t8#b\t32#b\t\"a\\tb\"\n"
unfolding string_text digits
a_string = refl

empty_array : printed Lines (Mapped ArrayLabel 8 8 NoMembers) ≡ codes ".\t8#b\t0#b\t[]\n"
unfolding digits
empty_array = refl

none_present : printed Lines
    (Mapped (StructLabel (Some (codes "P")) (Some (codes "f") ∷ [])) 0 0 (AbsentThen NoMembers))
    ≡ codes ".\t0#b\t0#b\tP {}\n"
unfolding digits
none_present = refl

-- an array of structs, of which the second has an empty array
elements : printed Lines (Mapped ArrayLabel 0 16
    (MemberThen (Mapped (StructLabel None (Some (codes "x") ∷ [])) 0 8 (MemberThen (byte_at 0 1) NoMembers))
    (MemberThen (Mapped (StructLabel None (Some (codes "x") ∷ Some (codes "e") ∷ [])) 8 16
    (MemberThen (byte_at 8 2) (MemberThen (Mapped ArrayLabel 16 16 NoMembers) NoMembers))) NoMembers)))
    ≡ codes "[0].x\t0#b\t8#b\t1UB\n[1].x\t8#b\t8#b\t2UB\n[1].e\t16#b\t0#b\t[]\n"
unfolding integer_text digits
elements = refl

-- a nameless field after an absent one, and a union in an array
places : printed Lines (Mapped (StructLabel (Some (codes "T")) (Some (codes "f") ∷ None ∷ Some (codes "us") ∷ [])) 0 16
    (AbsentThen (MemberThen (byte_at 0 1) (MemberThen (Mapped ArrayLabel 8 16
    (MemberThen (Mapped (UnionLabel (Some (codes "U")) 1 (Some (codes "b"))) 8 16 (MemberThen (byte_at 8 2) NoMembers))
    NoMembers)) NoMembers))))
    ≡ codes ".1\t0#b\t8#b\t1UB\n.us[0].b\t8#b\t8#b\t2UB\n"
unfolding integer_text digits
places = refl
