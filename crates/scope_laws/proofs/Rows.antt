-- Worked rows: the records of some types, what frames have to agree on, and an array whose elements see one another.
use Rattle.std.proofs.Common.{◌≡◌, ℕ, ◌+◌, Bool, true, false, [], ◌∷◌, Some, None, Ok, refl, subst, arith}
use Rattle.std.specs.Prelude.{pos, if◌then◌else◌}
use Rattle.std.proofs.lemmas.Option.{none-some}
use Rattle.bit_space.specs.Bits.{bits_of, binary, number, digits, numeral_onto, groups_from}
use Rattle.bit_space.specs.declared.order.Order.TheVariants.{Big}
use Rattle.pickle_types.specs.Types.{Name, Unbounded, ByCount, PokeType, IntegerOf, ArrayOf}
use Rattle.pickle_types.specs.Scopes.{Visible, is_named}
use Rattle.pickle_meaning.specs.Values.{IntegerLabel, ArrayLabel, Value, Mapped, NoMembers}
use Rattle.pickle_meaning.specs.Arithmetic.{unsigned_type, with_sign, modulo, converted, is_signed_in}
use Rattle.pickle_meaning.specs.Evaluation.{evaluation}
use Rattle.pickle_meaning.specs.Clauses.{extent_of}
use Rattle.pickle_meaning.specs.Means.{Means, number_read, number_end, integer, array, no_more, none_due}
use Rattle.scope_laws.specs.Agreement.{Agrees, LevelsAgree}
use Rattle.scope_laws.specs.Arrays.{ArraysSeeNone}
use Rattle.scope_laws.specs.Records.{AreRecords, no_record, next_record, RecordsEnd, at_end, before_fault}

-- ---- records

abbrev of_width : ℕ → PokeType
of_width n = IntegerOf (unsigned_type n)

abbrev integer_at : (number width start : ℕ) → Value
integer_at number width start =
    Mapped (IntegerLabel (pos number) (unsigned_type width)) start (start + width) NoMembers

-- uint<8> over two bytes: both, and the end of the bits
both_bytes : AreRecords (bits_of (1 ∷ 2 ∷ [])) (of_width 8) Big 0 (integer_at 1 8 0 ∷ integer_at 2 8 8 ∷ []) 16 4 2
unfolding bits_of binary number digits numeral_onto groups_from with_sign modulo converted is_signed_in
both_bytes =
    next_record (omega arith) (number_read (omega arith) refl (omega arith) integer) (omega arith)
    (next_record (omega arith) (number_read (omega arith) refl (omega arith) integer) (omega arith) no_record)

after_both : RecordsEnd (bits_of (1 ∷ 2 ∷ [])) (of_width 8) Big 16 None 0 0
unfolding bits_of binary
after_both = at_end (omega arith)

-- uint<16> over three bytes: the first one, and then too few bits for another
one_of_three : AreRecords (bits_of (1 ∷ 2 ∷ 3 ∷ [])) (of_width 16) Big 0 (integer_at 258 16 0 ∷ []) 16 2 1
unfolding bits_of binary number digits numeral_onto groups_from with_sign modulo converted is_signed_in
one_of_three =
    next_record (omega arith) (number_read (omega arith) refl (omega arith) integer) (omega arith) no_record

after_one : RecordsEnd (bits_of (1 ∷ 2 ∷ 3 ∷ [])) (of_width 16) Big 16 None 2 0
unfolding bits_of binary
after_one = before_fault (omega arith) (number_end (omega arith) refl (omega arith)) refl

-- ---- agreement

-- a field a, at place 1 of the only frame
abbrev field_a : Visible
field_a = record { name = Some (97 ∷ []); level = 0; place = 1; type = of_width 8 }

only_one : (b : Bool) (u v : Visible) → (if b then Some u else None) ≡ Some v → u ≡ v
only_one true u v found = cc
only_one false u v found = absurd (none-some v found)

-- what is before and after it may differ, and there may be more frames around
agree_on_a : LevelsAgree (field_a ∷ []) 1 ((None ∷ Some (integer_at 1 8 0) ∷ []) ∷ [])
    ((Some (integer_at 2 8 0) ∷ Some (integer_at 1 8 0) ∷ None ∷ []) ∷ (None ∷ []) ∷ [])
agree_on_a word v found =
    subst (Agrees 1 ((None ∷ Some (integer_at 1 8 0) ∷ []) ∷ [])
    ((Some (integer_at 2 8 0) ∷ Some (integer_at 1 8 0) ∷ None ∷ []) ∷ (None ∷ []) ∷ []))
    (only_one (is_named field_a.name word) field_a v found) (record { inside = omega arith; same = refl })

-- the field itself may not: here it is absent in one
differ_on_a : LevelsAgree (field_a ∷ []) 1 ((None ∷ None ∷ []) ∷ []) ((None ∷ Some (integer_at 1 8 0) ∷ []) ∷ []) → ⊥
differ_on_a h = none-some (integer_at 1 8 0) (h (97 ∷ []) field_a refl).same

-- ---- arrays

-- an array by the number in the frame around it
abbrev by_neighbour : PokeType
by_neighbour = ArrayOf (of_width 8) (ByCount (Name 0 0))

-- of no elements, if that number is 0
none_by_neighbour : Means [] by_neighbour Big ((Some (integer_at 0 8 0) ∷ []) ∷ []) 0
    (Ok (Mapped ArrayLabel 0 0 NoMembers)) 2 1
unfolding extent_of evaluation
none_by_neighbour = array (omega arith) refl no_more (none_due refl refl)

no_neighbour : {v : Value} {k j : ℕ} → Means [] by_neighbour Big ([] ∷ []) 0 (Ok v) k j → ⊥
unfolding extent_of evaluation
no_neighbour (number_read within e inside m) = none-some _ e
no_neighbour (array within e es c) = cc

-- no pickle declares an array of such arrays
sees_neighbour : ArraysSeeNone (ArrayOf by_neighbour Unbounded) → ⊥
unfolding ArraysSeeNone
sees_neighbour h =
    no_neighbour (h.0 [] (Some (integer_at 0 8 0) ∷ []) [] [] Big 0 _ 2 1 none_by_neighbour)
