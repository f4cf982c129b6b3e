-- Values and their printed forms in JSON, worked out by hand, against the definition.
use Rattle.std.proofs.Common.{◌≡◌, ℕ, pos, negsuc, refl, false, true, codes, [], ◌∷◌, Some, None}
use Rattle.std.specs.Fmt.{digits}
use Rattle.pickle_meaning.specs.Values.{Value, Mapped, Label, IntegerLabel, OffsetLabel, TextLabel, ArrayLabel, StructLabel, UnionLabel, NoMembers, MemberThen, AbsentThen}
use Rattle.text_output.specs.declared.mode.Mode.TheVariants.{Json}
use Rattle.value_text.specs.JsonText.{json_string}
use Rattle.value_text.specs.StyledNumbers.{json_offset_in}
use Rattle.value_text.specs.Printed.{printed}

-- a value without members
abbrev leaf : Label → Value
leaf label = Mapped label 0 0 NoMembers

abbrev byte : ℕ → Value
byte n = leaf (IntegerLabel (pos n) (record { width = 8; signed = false }))

an_integer : printed Json (leaf (IntegerLabel (pos 18446744073709551615) (record { width = 64; signed = false })))
    ≡ codes "18446744073709551615\n"
unfolding digits
an_integer = refl

below_0 : printed Json (leaf (IntegerLabel (negsuc 4) (record { width = 12; signed = true }))) ≡ codes "-5\n"
unfolding digits
below_0 = refl

an_offset : printed Json (leaf (OffsetLabel (negsuc 1) (record { width = 16; signed = true }) 4))
    ≡ codes "{\"magnitude\":-2,\"unit\":4}\n"
unfolding digits json_offset_in
an_offset = refl

-- the short forms, and the first and last bytes that are printed as themselves
a_string : printed Json (leaf (TextLabel (8 ∷ 9 ∷ 10 ∷ 12 ∷ 13 ∷ 34 ∷ 92 ∷ 31 ∷ 32 ∷ 126 ∷ 127 ∷ 255 ∷ [])))
    ≡ codes "\"\\u0008\\t\\n\\u000c\\u000d\\\"\\\\\\u001f ~\\u007f\\u00ff\"\n"
unfolding json_string
a_string = refl

no_string : printed Json (leaf (TextLabel [])) ≡ codes "\"\"\n"
unfolding json_string
no_string = refl

empty_array : printed Json (leaf ArrayLabel) ≡ codes "[]\n"
empty_array = refl

none_present : printed Json (Mapped (StructLabel (Some (codes "P")) (Some (codes "f") ∷ [])) 0 0 (AbsentThen NoMembers))
    ≡ codes "{}\n"
none_present = refl

pair : printed Json (Mapped (StructLabel (Some (codes "P")) (Some (codes "a") ∷ Some (codes "b") ∷ [])) 0 24
    (MemberThen (byte 5)
    (MemberThen (Mapped ArrayLabel 8 24 (MemberThen (byte 1) (MemberThen (byte 2) NoMembers))) NoMembers)))
    ≡ codes "{\"a\":5,\"b\":[1,2]}\n"
unfolding digits json_string
pair = refl

-- an absent field has a place: the third has no name
places : printed Json
    (Mapped (StructLabel None (Some (codes "f") ∷ Some (codes "x") ∷ None ∷ Some (codes "z") ∷ [])) 0 24
    (MemberThen (byte 0) (AbsentThen (MemberThen (byte 6) (MemberThen (byte 7) NoMembers)))))
    ≡ codes "{\"f\":0,\"2\":6,\"z\":7}\n"
unfolding digits json_string
places = refl

-- a union is its alternative
unions : printed Json (Mapped ArrayLabel 0 16
    (MemberThen (Mapped (UnionLabel (Some (codes "U")) 0 (Some (codes "a"))) 0 8 (MemberThen (byte 1) NoMembers))
    (MemberThen (Mapped (UnionLabel None 1 (Some (codes "b"))) 8 16
    (MemberThen (leaf (TextLabel (codes "hi"))) NoMembers)) NoMembers)))
    ≡ codes "[{\"a\":1},{\"b\":\"hi\"}]\n"
unfolding digits json_string
unions = refl
