-- Worked rows: the part in which the fault of a type arises on the bits of some bytes. There is one row for each way
-- that a fault arises.
use Rattle.std.proofs.Common.{◌≡◌, ℕ, ◌≤◌, false, List, [], ◌∷◌, Some, None, refl, arith}
use Rattle.std.proofs.lemmas.Option.{none-some}
use Rattle.bit_space.specs.declared.order.Order.{Order}
use Rattle.bit_space.specs.declared.order.Order.TheVariants.{Big}
use Rattle.bit_space.specs.Bits.{bits_of, binary, number, digits, numeral_onto, groups_from}
use Rattle.pickle_tree.specs.declared.tree.Infix.TheVariants.{Less, Divide}
use Rattle.pickle_types.specs.Types.{Number, Name, Between, InUnit, ByCount, BySize, PokeType, IntegerOf, StringOf, ArrayOf, StructOf, IntegralOf, UnionOf, NoFields, FieldThen, NoParts, PartThen}
use Rattle.pickle_types.specs.Operators.{divisor_in, greatest_divisor}
use Rattle.pickle_meaning.specs.declared.faults.MapFaultKind.TheVariants as fault
use Rattle.pickle_meaning.specs.declared.extent.Extent.{Extent}
use Rattle.pickle_meaning.specs.Values.{Levels, no_values}
use Rattle.pickle_meaning.specs.Arithmetic.{signed_type, unsigned_type, modulo, with_sign, converted, is_signed_in, brought, prefixed, on_common, on_integers, on_bits, on_scaled, combined, to_integer, to_offset, in_unit}
use Rattle.pickle_meaning.specs.Evaluation.{and_operand, evaluation}
use Rattle.pickle_meaning.specs.Clauses.{FaultAt, constraint, condition, field_start, extent_of}
use Rattle.pickle_meaning.specs.Means.{Elements, number_read, integer, struct, all_fields, part, no_more, next_element, no_bytes, next_byte, part_refused}
use Rattle.fault_parts.specs.Arises.{Arises, starts_past_end, number_past_end, string_past_end, bound_of_array, in_array, past_size, of_no_bits, in_element, in_struct, in_number, in_union, in_part, constraint_of_part, no_field_before, absent_before, value_before, condition_of_field, label_of_field, in_field, no_digits_before, digits_before, is_no_number, in_digits, digits_constraint, no_miss_before, miss_before, none_fits, in_alternative}

abbrev byte : PokeType
byte = IntegerOf (unsigned_type 8)

abbrev pair : PokeType
pair = IntegerOf (unsigned_type 16)

-- struct { uint<8> a; uint<16> b; } on two bytes: b ends past the last bit
short_field : Arises (bits_of (1 ∷ 2 ∷ []))
    (StructOf None false (FieldThen None None byte None None None (FieldThen None None pair None None None NoFields)))
    Big no_values 0 (fault.End, 8) (1 ∷ [])
unfolding bits_of binary number digits numeral_onto groups_from constraint condition field_start
short_field =
    in_struct (omega arith)
    (in_field (value_before no_field_before refl refl
    (part (number_read (omega arith) refl (omega arith) integer) refl)) refl refl
    (in_part (number_past_end (omega arith) refl (omega arith))))

-- uint<16>[2] on three bytes: the second element ends past the last bit
short_element : Arises (bits_of (1 ∷ 2 ∷ 3 ∷ [])) (ArrayOf pair (ByCount (Number (signed_type 32) 2))) Big no_values 0
    (fault.End, 16) (1 ∷ [])
unfolding bits_of binary number digits numeral_onto groups_from extent_of evaluation
short_element =
    in_array (omega arith) refl
    (in_element (next_element refl (number_read (omega arith) refl (omega arith) integer) (omega arith) no_more) refl
    refl (number_past_end (omega arith) refl (omega arith)))

-- string on two bytes, neither of which is 0
short_text : Arises (bits_of (65 ∷ 66 ∷ [])) StringOf Big no_values 0 (fault.End, 0) []
unfolding bits_of binary number digits numeral_onto groups_from
short_text =
    string_past_end (omega arith) (next_byte (omega arith) refl (next_byte (omega arith) refl no_bytes)) (omega arith)

-- a byte past the last bit
past_end : Arises (bits_of []) byte Big no_values 1 (fault.End, 1) []
unfolding bits_of
past_end = starts_past_end (omega arith)

-- uint<16>[3#B]: the elements end past the size
beyond : Arises (bits_of (0 ∷ 1 ∷ 0 ∷ 2 ∷ [])) (ArrayOf pair (BySize (InUnit 8 (Number (signed_type 32) 3)))) Big
    no_values 0 (fault.Bounds, 0) []
unfolding bits_of binary number digits numeral_onto groups_from extent_of evaluation and_operand in_unit brought
    converted is_signed_in modulo with_sign divisor_in greatest_divisor
beyond =
    in_array (omega arith) refl
    (past_size (next_element refl (number_read (omega arith) refl (omega arith) integer) (omega arith)
    (next_element refl (number_read (omega arith) refl (omega arith) integer) (omega arith) no_more)) refl refl)

-- byte[1 / 0]: the bound divides by zero
bound_divides : Arises (bits_of [])
    (ArrayOf byte (ByCount (Between Divide (Number (signed_type 32) 1) (Number (signed_type 32) 0)))) Big no_values
    0 (fault.Zero, 0) []
unfolding bits_of extent_of evaluation and_operand combined on_integers on_common on_bits on_scaled brought prefixed
    to_integer to_offset in_unit converted is_signed_in modulo with_sign
bound_divides = bound_of_array (omega arith) refl

-- struct {}[1]: an element takes no bits
no_bits : Arises (bits_of []) (ArrayOf (StructOf None false NoFields) (ByCount (Number (signed_type 32) 1))) Big
    no_values 0 (fault.NoBits, 0) (0 ∷ [])
unfolding bits_of extent_of evaluation
no_bits = in_array (omega arith) refl (of_no_bits no_more refl (struct (omega arith) all_fields) refl)

-- struct { byte a : a < 5; } on the byte 7: the constraint is 0
refused_field : Arises (bits_of (7 ∷ [])) (StructOf None false
    (FieldThen None None byte (Some (Between Less (Name 0 0) (Number (signed_type 32) 5))) None None NoFields))
    Big no_values 0 (fault.Constraint, 0) (0 ∷ [])
unfolding bits_of binary number digits numeral_onto groups_from constraint condition field_start evaluation and_operand
    combined on_integers on_common converted is_signed_in modulo with_sign
refused_field = in_struct (omega arith) (in_field no_field_before refl refl
    (constraint_of_part (number_read (omega arith) refl (omega arith) integer) refl))

-- struct { byte a if 1 / 0; }
condition_divides : Arises (bits_of []) (StructOf None false (FieldThen None None byte None None
    (Some (Between Divide (Number (signed_type 32) 1) (Number (signed_type 32) 0))) NoFields))
    Big no_values 0 (fault.Zero, 0) (0 ∷ [])
unfolding bits_of condition evaluation and_operand combined on_integers on_common on_bits on_scaled brought prefixed
    to_integer to_offset in_unit converted is_signed_in modulo with_sign
condition_divides = in_struct (omega arith) (condition_of_field no_field_before refl)

-- struct { byte a if 0; byte b @ (1 / 0)#b; }: after a field that is absent
label_divides : Arises (bits_of []) (StructOf None false
    (FieldThen None None byte None None (Some (Number (signed_type 32) 0)) (FieldThen None None byte None
    (Some (InUnit 1 (Between Divide (Number (signed_type 32) 1) (Number (signed_type 32) 0)))) None NoFields)))
    Big no_values 0 (fault.Zero, 0) (1 ∷ [])
unfolding bits_of condition field_start evaluation and_operand combined on_integers on_common on_bits on_scaled brought
    prefixed to_integer to_offset in_unit converted is_signed_in modulo with_sign
label_divides = in_struct (omega arith) (label_of_field (absent_before no_field_before refl) refl refl)

-- union { byte a : a < 5; byte b : b < 5; } on the byte 7: no alternative matches
misfit : Arises (bits_of (7 ∷ []))
    (UnionOf None (PartThen None None byte (Some (Between Less (Name 0 0) (Number (signed_type 32) 5))) NoParts)) Big
    no_values 0 (fault.Constraint, 0) []
unfolding bits_of binary number digits numeral_onto groups_from constraint evaluation and_operand combined on_integers
    on_common converted is_signed_in modulo with_sign
misfit = in_union (omega arith) (none_fits
    (miss_before no_miss_before (part_refused (number_read (omega arith) refl (omega arith) integer) refl) refl))

-- union { byte a : a < 5; uint<16> b; } on the byte 7: the second alternative ends past the last bit
short_alternative : Arises (bits_of (7 ∷ [])) (UnionOf None (PartThen None None byte
    (Some (Between Less (Name 0 0) (Number (signed_type 32) 5))) (PartThen None None pair None NoParts)))
    Big no_values 0 (fault.End, 0) (1 ∷ [])
unfolding bits_of binary number digits numeral_onto groups_from constraint evaluation and_operand combined on_integers
    on_common converted is_signed_in modulo with_sign
short_alternative =
    in_union (omega arith)
    (in_alternative
    (miss_before no_miss_before (part_refused (number_read (omega arith) refl (omega arith) integer) refl) refl)
    refl (in_part (number_past_end (omega arith) refl (omega arith))))

-- struct uint<8> { uint<4> a; uint<4> b : b < 5; } on the byte 7: the second field's constraint is 0
refused_digits : Arises (bits_of (7 ∷ []))
    (IntegralOf None (unsigned_type 8) (PartThen None None (IntegerOf (unsigned_type 4)) None (PartThen None None
    (IntegerOf (unsigned_type 4)) (Some (Between Less (Name 0 1) (Number (signed_type 32) 5))) NoParts)))
    Big no_values 0 (fault.Constraint, 0) (1 ∷ [])
unfolding bits_of binary number digits numeral_onto groups_from constraint evaluation and_operand combined on_integers
    on_common converted is_signed_in modulo with_sign
refused_digits = in_number (omega arith) refl (omega arith)
    (in_digits (digits_constraint (digits_before no_digits_before integer refl) integer refl))

-- the elements from one number on: a later one has a greater number, and the same one its own place
elements_later : {bits : List ℕ} {ty : PokeType} {order : Order} {s : ℕ} {extent : Extent} {i : ℕ} {levels : Levels}
    {p n : ℕ} {inside : Levels} {pn k j : ℕ} →
    Elements bits ty order s extent i levels p n inside pn k j → (i ≤ n) × (n ≡ i → pn ≡ p)
elements_later no_more = (omega arith, λ e. refl)
elements_later (next_element due m lt es) =
    let h = elements_later es in let up = h.0 in (omega arith, λ e. absurd (omega arith))

-- a number's fault is at its start
number_start : {bits : List ℕ} {order : Order} {levels : Levels} {s : ℕ} {f : FaultAt} →
    Arises bits pair order levels s f [] → f.1 ≡ s
number_start (starts_past_end lt) = refl
number_start (number_past_end le e lt) = refl
number_start (in_number le e inside (is_no_number none)) = refl

-- of uint<16>[2] on three bytes: the fault doesn't arise in the first element
not_the_first : Arises (bits_of (1 ∷ 2 ∷ 3 ∷ [])) (ArrayOf pair (ByCount (Number (signed_type 32) 2))) Big no_values 0
    (fault.End, 16) (0 ∷ []) → ⊥
not_the_first (in_array le e (in_element es due ends h)) =
    let at = number_start h in
    let from = (elements_later es).1 refl in
    omega arith
not_the_first (in_number le e inside h) = none-some _ e
