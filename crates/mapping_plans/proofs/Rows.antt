-- Worked rows, computed by the definitions: what a type means on the bits of some bytes, its steps and the values made.
use Rattle.std.proofs.Common.{◌≡◌, true, false, [], ◌∷◌, Some, None, Ok, Err, refl, inl, inr, arith}
use Rattle.std.specs.Prelude.{pos, negsuc}
use Rattle.bit_space.specs.declared.order.Order.TheVariants.{Big, Little}
use Rattle.bit_space.specs.Bits.{bits_of, binary, number, digits, numeral_onto, groups_from}
use Rattle.pickle_tree.specs.declared.tree.Attribute.TheVariants.{Length, Size}
use Rattle.pickle_tree.specs.declared.tree.ByteOrder.TheVariants as prefix
use Rattle.pickle_tree.specs.declared.tree.Prefix.TheVariants.{Plus, Minus, Complement, Not}
use Rattle.pickle_tree.specs.declared.tree.Infix.TheVariants.{LogicalOr, LogicalAnd, BitOr, BitXor, BitAnd, Equal, NotEqual, Less, LessEqual, Greater, GreaterEqual, ShiftLeft, ShiftRight, Add, Subtract, Multiply, Divide, Remainder}
use Rattle.pickle_types.specs.Types.{Number, Text, Name, Bracket, Before, Between, Choice, Index, Select, AttributeOf, ToInteger, ToOffset, InUnit, Unbounded, ByCount, BySize, IntegerOf, OffsetOf, StringOf, ArrayOf, StructOf, IntegralOf, UnionOf, NoFields, FieldThen, NoParts, PartThen}
use Rattle.pickle_types.specs.Bounds.{least_width, cost, room}
use Rattle.pickle_types.specs.Operators.{divisor_in, greatest_divisor}
use Rattle.pickle_meaning.specs.declared.faults.MapFaultKind.TheVariants as fault
use Rattle.pickle_meaning.specs.Values.{IntegerLabel, OffsetLabel, TextLabel, ArrayLabel, StructLabel, UnionLabel, Mapped, NoMembers, MemberThen, AbsentThen, no_values}
use Rattle.pickle_meaning.specs.Arithmetic.{signed_type, unsigned_type, modulo, with_sign, converted, is_signed_in, brought, prefixed, shifted_left, shifted_right, on_common, on_integers, on_bits, on_scaled, on_texts, combined, to_integer, to_offset, in_unit}
use Rattle.pickle_meaning.specs.Evaluation.{and_operand, evaluation}
use Rattle.pickle_meaning.specs.Clauses.{constraint, condition, field_start, extent_of}
use Rattle.pickle_meaning.specs.Means.{Means}
use Rattle.mapping_plans.specs.Plan.{then_ok, framed}
use Rattle.pickle_meaning.specs.Answer.{Answer, in_time, too_long}
use Rattle.pickle_meaning.specs.Fits.{Fits, FitsNumber}
use Rattle.mapping_plans.specs.Mapping.{from_inside, constrained, number_plan, read_plan, after_byte, text_plan, after_element, elements_plan, after_attempt, plan}
use Rattle.mapping_plans.proofs.Exists.{plan_means}

-- struct { uint<8> a; uint<16> b; }
pair : Means (bits_of (1 ∷ 2 ∷ 3 ∷ []))
    (StructOf (Some (80 ∷ [])) false (FieldThen (Some (97 ∷ [])) None (IntegerOf (unsigned_type 8)) None None None
    (FieldThen (Some (98 ∷ [])) None (IntegerOf (unsigned_type 16)) None None None NoFields)))
    Big no_values 0 (Ok (Mapped (StructLabel (Some (80 ∷ [])) ((Some (97 ∷ [])) ∷ (Some (98 ∷ [])) ∷ [])) 0 24
    (MemberThen (Mapped (IntegerLabel (pos 1) (unsigned_type 8)) 0 8 NoMembers)
    (MemberThen (Mapped (IntegerLabel (pos 515) (unsigned_type 16)) 8 24 NoMembers) NoMembers))))
    5 3
unfolding bits_of binary number digits numeral_onto groups_from modulo with_sign converted is_signed_in brought prefixed
    shifted_left shifted_right on_common on_integers on_bits on_scaled on_texts combined to_integer to_offset in_unit
    divisor_in greatest_divisor and_operand evaluation constraint condition field_start extent_of then_ok framed
    from_inside constrained number_plan read_plan after_byte text_plan after_element elements_plan
    after_attempt plan least_width
pair = plan_means (bits_of (1 ∷ 2 ∷ 3 ∷ [])) _ Big no_values 0

pair_short : Means (bits_of (1 ∷ 2 ∷ []))
    (StructOf (Some (80 ∷ [])) false (FieldThen (Some (97 ∷ [])) None (IntegerOf (unsigned_type 8)) None None None
    (FieldThen (Some (98 ∷ [])) None (IntegerOf (unsigned_type 16)) None None None NoFields)))
    Big no_values 0 (Err (fault.End, 8)) 5 1
unfolding bits_of binary number digits numeral_onto groups_from modulo with_sign converted is_signed_in brought prefixed
    shifted_left shifted_right on_common on_integers on_bits on_scaled on_texts combined to_integer to_offset in_unit
    divisor_in greatest_divisor and_operand evaluation constraint condition field_start extent_of then_ok framed
    from_inside constrained number_plan read_plan after_byte text_plan after_element elements_plan
    after_attempt plan least_width
pair_short = plan_means (bits_of (1 ∷ 2 ∷ [])) _ Big no_values 0

-- struct { little uint<12> x; uint<4> y; }
little_groups : Means (bits_of (52 ∷ 18 ∷ []))
    (StructOf (Some (84 ∷ [])) false (FieldThen (Some (120 ∷ [])) (Some prefix.Little) (IntegerOf (unsigned_type 12))
    None None None (FieldThen (Some (121 ∷ [])) None (IntegerOf (unsigned_type 4)) None None None NoFields)))
    Big no_values 0 (Ok (Mapped (StructLabel (Some (84 ∷ [])) ((Some (120 ∷ [])) ∷ (Some (121 ∷ [])) ∷ [])) 0 16
    (MemberThen (Mapped (IntegerLabel (pos 308) (unsigned_type 12)) 0 12 NoMembers)
    (MemberThen (Mapped (IntegerLabel (pos 2) (unsigned_type 4)) 12 16 NoMembers) NoMembers))))
    5 3
unfolding bits_of binary number digits numeral_onto groups_from modulo with_sign converted is_signed_in brought prefixed
    shifted_left shifted_right on_common on_integers on_bits on_scaled on_texts combined to_integer to_offset in_unit
    divisor_in greatest_divisor and_operand evaluation constraint condition field_start extent_of then_ok framed
    from_inside constrained number_plan read_plan after_byte text_plan after_element elements_plan
    after_attempt plan least_width
little_groups = plan_means (bits_of (52 ∷ 18 ∷ [])) _ Big no_values 0

big_groups : Means (bits_of (52 ∷ 18 ∷ []))
    (StructOf (Some (84 ∷ [])) false (FieldThen (Some (120 ∷ [])) (Some prefix.Big) (IntegerOf (unsigned_type 12)) None
    None None (FieldThen (Some (121 ∷ [])) None (IntegerOf (unsigned_type 4)) None None None NoFields)))
    Big no_values 0 (Ok (Mapped (StructLabel (Some (84 ∷ [])) ((Some (120 ∷ [])) ∷ (Some (121 ∷ [])) ∷ [])) 0 16
    (MemberThen (Mapped (IntegerLabel (pos 833) (unsigned_type 12)) 0 12 NoMembers)
    (MemberThen (Mapped (IntegerLabel (pos 2) (unsigned_type 4)) 12 16 NoMembers) NoMembers))))
    5 3
unfolding bits_of binary number digits numeral_onto groups_from modulo with_sign converted is_signed_in brought prefixed
    shifted_left shifted_right on_common on_integers on_bits on_scaled on_texts combined to_integer to_offset in_unit
    divisor_in greatest_divisor and_operand evaluation constraint condition field_start extent_of then_ok framed
    from_inside constrained number_plan read_plan after_byte text_plan after_element elements_plan
    after_attempt plan least_width
big_groups = plan_means (bits_of (52 ∷ 18 ∷ [])) _ Big no_values 0

-- struct E { byte v : v != 0; }, struct A { E[] es; byte z; }
constrained_elements : Means (bits_of (5 ∷ 6 ∷ 0 ∷ [])) (StructOf (Some (65 ∷ [])) false
    (FieldThen (Some (101 ∷ 115 ∷ [])) None (ArrayOf (StructOf (Some (69 ∷ [])) false (FieldThen (Some (118 ∷ [])) None
    (IntegerOf (unsigned_type 8)) (Some (Between NotEqual (Name 0 0) (Number (signed_type 32) 0))) None None NoFields))
    Unbounded) None None None (FieldThen (Some (122 ∷ [])) None (IntegerOf (unsigned_type 8)) None None None NoFields)))
    Big no_values 0 (Ok (Mapped (StructLabel (Some (65 ∷ [])) ((Some (101 ∷ 115 ∷ [])) ∷ (Some (122 ∷ [])) ∷ [])) 0 24
    (MemberThen (Mapped ArrayLabel 0 16 (MemberThen (Mapped (StructLabel (Some (69 ∷ [])) ((Some (118 ∷ [])) ∷ [])) 0 8
    (MemberThen (Mapped (IntegerLabel (pos 5) (unsigned_type 8)) 0 8 NoMembers) NoMembers))
    (MemberThen (Mapped (StructLabel (Some (69 ∷ [])) ((Some (118 ∷ [])) ∷ [])) 8 16
    (MemberThen (Mapped (IntegerLabel (pos 6) (unsigned_type 8)) 8 16 NoMembers) NoMembers)) NoMembers)))
    (MemberThen (Mapped (IntegerLabel (pos 0) (unsigned_type 8)) 16 24 NoMembers) NoMembers))))
    26 8
unfolding bits_of binary number digits numeral_onto groups_from modulo with_sign converted is_signed_in brought prefixed
    shifted_left shifted_right on_common on_integers on_bits on_scaled on_texts combined to_integer to_offset in_unit
    divisor_in greatest_divisor and_operand evaluation constraint condition field_start extent_of then_ok framed
    from_inside constrained number_plan read_plan after_byte text_plan after_element elements_plan
    after_attempt plan least_width
constrained_elements = plan_means (bits_of (5 ∷ 6 ∷ 0 ∷ [])) _ Big no_values 0

-- byte[] on no bits
no_elements : Means (bits_of []) (ArrayOf (IntegerOf (unsigned_type 8)) Unbounded) Big no_values 0
    (Ok (Mapped ArrayLabel 0 0 NoMembers)) 1 1
unfolding bits_of binary number digits numeral_onto groups_from modulo with_sign converted is_signed_in brought prefixed
    shifted_left shifted_right on_common on_integers on_bits on_scaled on_texts combined to_integer to_offset in_unit
    divisor_in greatest_divisor and_operand evaluation constraint condition field_start extent_of then_ok framed
    from_inside constrained number_plan read_plan after_byte text_plan after_element elements_plan
    after_attempt plan least_width
no_elements = plan_means (bits_of []) _ Big no_values 0

-- uint<16>[]
partial_element : Means (bits_of (0 ∷ 1 ∷ 2 ∷ [])) (ArrayOf (IntegerOf (unsigned_type 16)) Unbounded) Big no_values 0
    (Ok
    (Mapped ArrayLabel 0 16 (MemberThen (Mapped (IntegerLabel (pos 1) (unsigned_type 16)) 0 16 NoMembers) NoMembers)))
    5 2
unfolding bits_of binary number digits numeral_onto groups_from modulo with_sign converted is_signed_in brought prefixed
    shifted_left shifted_right on_common on_integers on_bits on_scaled on_texts combined to_integer to_offset in_unit
    divisor_in greatest_divisor and_operand evaluation constraint condition field_start extent_of then_ok framed
    from_inside constrained number_plan read_plan after_byte text_plan after_element elements_plan
    after_attempt plan least_width
partial_element = plan_means (bits_of (0 ∷ 1 ∷ 2 ∷ [])) _ Big no_values 0

-- uint<16>[3#B]
past_size : Means (bits_of (0 ∷ 1 ∷ 0 ∷ 2 ∷ []))
    (ArrayOf (IntegerOf (unsigned_type 16)) (BySize (InUnit 8 (Number (signed_type 32) 3)))) Big no_values 0
    (Err (fault.Bounds, 0)) 7 2
unfolding bits_of binary number digits numeral_onto groups_from modulo with_sign converted is_signed_in brought prefixed
    shifted_left shifted_right on_common on_integers on_bits on_scaled on_texts combined to_integer to_offset in_unit
    divisor_in greatest_divisor and_operand evaluation constraint condition field_start extent_of then_ok framed
    from_inside constrained number_plan read_plan after_byte text_plan after_element elements_plan
    after_attempt plan least_width
past_size = plan_means (bits_of (0 ∷ 1 ∷ 0 ∷ 2 ∷ [])) _ Big no_values 0

size_past_end : Means (bits_of (0 ∷ 1 ∷ 0 ∷ []))
    (ArrayOf (IntegerOf (unsigned_type 16)) (BySize (InUnit 8 (Number (signed_type 32) 3)))) Big no_values 0
    (Err (fault.End, 16)) 7 1
unfolding bits_of binary number digits numeral_onto groups_from modulo with_sign converted is_signed_in brought prefixed
    shifted_left shifted_right on_common on_integers on_bits on_scaled on_texts combined to_integer to_offset in_unit
    divisor_in greatest_divisor and_operand evaluation constraint condition field_start extent_of then_ok framed
    from_inside constrained number_plan read_plan after_byte text_plan after_element elements_plan
    after_attempt plan least_width
size_past_end = plan_means (bits_of (0 ∷ 1 ∷ 0 ∷ [])) _ Big no_values 0

-- struct N { byte x if 0; }, N[3]
empty_elements : Means (bits_of (0 ∷ [])) (ArrayOf (StructOf (Some (78 ∷ [])) false (FieldThen (Some (120 ∷ [])) None
    (IntegerOf (unsigned_type 8)) None None (Some (Number (signed_type 32) 0)) NoFields))
    (ByCount (Number (signed_type 32) 3))) Big no_values 0 (Err (fault.NoBits, 0)) 6 1
unfolding bits_of binary number digits numeral_onto groups_from modulo with_sign converted is_signed_in brought prefixed
    shifted_left shifted_right on_common on_integers on_bits on_scaled on_texts combined to_integer to_offset in_unit
    divisor_in greatest_divisor and_operand evaluation constraint condition field_start extent_of then_ok framed
    from_inside constrained number_plan read_plan after_byte text_plan after_element elements_plan
    after_attempt plan least_width
empty_elements = plan_means (bits_of (0 ∷ [])) _ Big no_values 0

empty_elements_unbounded : Means (bits_of (0 ∷ []))
    (ArrayOf (StructOf (Some (78 ∷ [])) false (FieldThen (Some (120 ∷ [])) None (IntegerOf (unsigned_type 8)) None None
    (Some (Number (signed_type 32) 0)) NoFields)) Unbounded) Big no_values 0 (Err (fault.NoBits, 0)) 5 1
unfolding bits_of binary number digits numeral_onto groups_from modulo with_sign converted is_signed_in brought prefixed
    shifted_left shifted_right on_common on_integers on_bits on_scaled on_texts combined to_integer to_offset in_unit
    divisor_in greatest_divisor and_operand evaluation constraint condition field_start extent_of then_ok framed
    from_inside constrained number_plan read_plan after_byte text_plan after_element elements_plan
    after_attempt plan least_width
empty_elements_unbounded = plan_means (bits_of (0 ∷ [])) _ Big no_values 0

empty_elements_many : Means (bits_of (0 ∷ [])) (ArrayOf (StructOf (Some (78 ∷ [])) false (FieldThen (Some (120 ∷ []))
    None (IntegerOf (unsigned_type 8)) None None (Some (Number (signed_type 32) 0)) NoFields))
    (ByCount (Number (signed_type 64) 4611686018427387904))) Big no_values 0 (Err (fault.NoBits, 0)) 6 1
unfolding bits_of binary number digits numeral_onto groups_from modulo with_sign converted is_signed_in brought prefixed
    shifted_left shifted_right on_common on_integers on_bits on_scaled on_texts combined to_integer to_offset in_unit
    divisor_in greatest_divisor and_operand evaluation constraint condition field_start extent_of then_ok framed
    from_inside constrained number_plan read_plan after_byte text_plan after_element elements_plan
    after_attempt plan least_width
empty_elements_many = plan_means (bits_of (0 ∷ [])) _ Big no_values 0

-- union { byte a : a == 1; uint<16> b; }
end_in_union : Means (bits_of (2 ∷ [])) (UnionOf None (PartThen (Some (97 ∷ [])) None (IntegerOf (unsigned_type 8))
    (Some (Between Equal (Name 0 0) (Number (signed_type 32) 1)))
    (PartThen (Some (98 ∷ [])) None (IntegerOf (unsigned_type 16)) None NoParts)))
    Big no_values 0 (Err (fault.End, 0)) 8 1
unfolding bits_of binary number digits numeral_onto groups_from modulo with_sign converted is_signed_in brought prefixed
    shifted_left shifted_right on_common on_integers on_bits on_scaled on_texts combined to_integer to_offset in_unit
    divisor_in greatest_divisor and_operand evaluation constraint condition field_start extent_of then_ok framed
    from_inside constrained number_plan read_plan after_byte text_plan after_element elements_plan
    after_attempt plan least_width
end_in_union = plan_means (bits_of (2 ∷ [])) _ Big no_values 0

-- union { byte a : 1 / a == 1; byte b; }
zero_in_union : Means (bits_of (0 ∷ [])) (UnionOf None (PartThen (Some (97 ∷ [])) None (IntegerOf (unsigned_type 8))
    (Some (Between Equal (Between Divide (Number (signed_type 32) 1) (Name 0 0)) (Number (signed_type 32) 1)))
    (PartThen (Some (98 ∷ [])) None (IntegerOf (unsigned_type 8)) None NoParts)))
    Big no_values 0 (Err (fault.Zero, 0)) 7 1
unfolding bits_of binary number digits numeral_onto groups_from modulo with_sign converted is_signed_in brought prefixed
    shifted_left shifted_right on_common on_integers on_bits on_scaled on_texts combined to_integer to_offset in_unit
    divisor_in greatest_divisor and_operand evaluation constraint condition field_start extent_of then_ok framed
    from_inside constrained number_plan read_plan after_byte text_plan after_element elements_plan
    after_attempt plan least_width
zero_in_union = plan_means (bits_of (0 ∷ [])) _ Big no_values 0

-- union U { byte a : a == 1; byte b : b == 2; }, struct T { U[] us; byte rest; }
unions : Means (bits_of (1 ∷ 2 ∷ 3 ∷ [])) (StructOf (Some (84 ∷ [])) false (FieldThen (Some (117 ∷ 115 ∷ [])) None
    (ArrayOf (UnionOf (Some (85 ∷ [])) (PartThen (Some (97 ∷ [])) None (IntegerOf (unsigned_type 8))
    (Some (Between Equal (Name 0 0) (Number (signed_type 32) 1))) (PartThen (Some (98 ∷ [])) None (IntegerOf
    (unsigned_type 8)) (Some (Between Equal (Name 0 0) (Number (signed_type 32) 2))) NoParts))) Unbounded) None None
    None (FieldThen (Some (114 ∷ 101 ∷ 115 ∷ 116 ∷ [])) None (IntegerOf (unsigned_type 8)) None None None NoFields)))
    Big no_values 0
    (Ok (Mapped (StructLabel (Some (84 ∷ [])) ((Some (117 ∷ 115 ∷ [])) ∷ (Some (114 ∷ 101 ∷ 115 ∷ 116 ∷ [])) ∷ [])) 0 24
    (MemberThen (Mapped ArrayLabel 0 16 (MemberThen (Mapped (UnionLabel (Some (85 ∷ [])) 0 (Some (97 ∷ []))) 0 8
    (MemberThen (Mapped (IntegerLabel (pos 1) (unsigned_type 8)) 0 8 NoMembers) NoMembers))
    (MemberThen (Mapped (UnionLabel (Some (85 ∷ [])) 1 (Some (98 ∷ []))) 8 16
    (MemberThen (Mapped (IntegerLabel (pos 2) (unsigned_type 8)) 8 16 NoMembers) NoMembers)) NoMembers)))
    (MemberThen (Mapped (IntegerLabel (pos 3) (unsigned_type 8)) 16 24 NoMembers) NoMembers))))
    36 10
unfolding bits_of binary number digits numeral_onto groups_from modulo with_sign converted is_signed_in brought prefixed
    shifted_left shifted_right on_common on_integers on_bits on_scaled on_texts combined to_integer to_offset in_unit
    divisor_in greatest_divisor and_operand evaluation constraint condition field_start extent_of then_ok framed
    from_inside constrained number_plan read_plan after_byte text_plan after_element elements_plan
    after_attempt plan least_width
unions = plan_means (bits_of (1 ∷ 2 ∷ 3 ∷ [])) _ Big no_values 0

no_alternative : Means (bits_of (3 ∷ []))
    (UnionOf (Some (85 ∷ [])) (PartThen (Some (97 ∷ [])) None (IntegerOf (unsigned_type 8))
    (Some (Between Equal (Name 0 0) (Number (signed_type 32) 1))) (PartThen (Some (98 ∷ [])) None
    (IntegerOf (unsigned_type 8)) (Some (Between Equal (Name 0 0) (Number (signed_type 32) 2))) NoParts)))
    Big no_values 0 (Err (fault.Constraint, 0)) 11 2
unfolding bits_of binary number digits numeral_onto groups_from modulo with_sign converted is_signed_in brought prefixed
    shifted_left shifted_right on_common on_integers on_bits on_scaled on_texts combined to_integer to_offset in_unit
    divisor_in greatest_divisor and_operand evaluation constraint condition field_start extent_of then_ok framed
    from_inside constrained number_plan read_plan after_byte text_plan after_element elements_plan
    after_attempt plan least_width
no_alternative = plan_means (bits_of (3 ∷ [])) _ Big no_values 0

-- struct { byte n; byte back @ 0#B; byte next; }
labels : Means (bits_of (7 ∷ 8 ∷ [])) (StructOf (Some (84 ∷ [])) false (FieldThen (Some (110 ∷ [])) None
    (IntegerOf (unsigned_type 8)) None None None (FieldThen (Some (98 ∷ 97 ∷ 99 ∷ 107 ∷ [])) None
    (IntegerOf (unsigned_type 8)) None (Some (InUnit 8 (Number (signed_type 32) 0))) None
    (FieldThen (Some (110 ∷ 101 ∷ 120 ∷ 116 ∷ [])) None (IntegerOf (unsigned_type 8)) None None None NoFields))))
    Big no_values 0 (Ok (Mapped (StructLabel (Some (84 ∷ []))
    ((Some (110 ∷ [])) ∷ (Some (98 ∷ 97 ∷ 99 ∷ 107 ∷ [])) ∷ (Some (110 ∷ 101 ∷ 120 ∷ 116 ∷ [])) ∷ []))
    0 16 (MemberThen (Mapped (IntegerLabel (pos 7) (unsigned_type 8)) 0 8 NoMembers)
    (MemberThen (Mapped (IntegerLabel (pos 7) (unsigned_type 8)) 0 8 NoMembers)
    (MemberThen (Mapped (IntegerLabel (pos 8) (unsigned_type 8)) 8 16 NoMembers) NoMembers)))))
    9 4
unfolding bits_of binary number digits numeral_onto groups_from modulo with_sign converted is_signed_in brought prefixed
    shifted_left shifted_right on_common on_integers on_bits on_scaled on_texts combined to_integer to_offset in_unit
    divisor_in greatest_divisor and_operand evaluation constraint condition field_start extent_of then_ok framed
    from_inside constrained number_plan read_plan after_byte text_plan after_element elements_plan
    after_attempt plan least_width
labels = plan_means (bits_of (7 ∷ 8 ∷ [])) _ Big no_values 0

-- struct R { byte far @ 1#B; byte n @ 0#B; }, R[2]
greatest_end : Means (bits_of (1 ∷ 2 ∷ 3 ∷ 4 ∷ []))
    (ArrayOf (StructOf (Some (82 ∷ [])) false (FieldThen (Some (102 ∷ 97 ∷ 114 ∷ [])) None (IntegerOf (unsigned_type 8))
    None (Some (InUnit 8 (Number (signed_type 32) 1))) None (FieldThen (Some (110 ∷ [])) None
    (IntegerOf (unsigned_type 8)) None (Some (InUnit 8 (Number (signed_type 32) 0))) None NoFields)))
    (ByCount (Number (signed_type 32) 2))) Big no_values 0 (Ok (Mapped ArrayLabel 0 32
    (MemberThen (Mapped (StructLabel (Some (82 ∷ [])) ((Some (102 ∷ 97 ∷ 114 ∷ [])) ∷ (Some (110 ∷ [])) ∷ [])) 0 16
    (MemberThen (Mapped (IntegerLabel (pos 2) (unsigned_type 8)) 8 16 NoMembers)
    (MemberThen (Mapped (IntegerLabel (pos 1) (unsigned_type 8)) 0 8 NoMembers) NoMembers)))
    (MemberThen (Mapped (StructLabel (Some (82 ∷ [])) ((Some (102 ∷ 97 ∷ 114 ∷ [])) ∷ (Some (110 ∷ [])) ∷ [])) 16 32
    (MemberThen (Mapped (IntegerLabel (pos 4) (unsigned_type 8)) 24 32 NoMembers)
    (MemberThen (Mapped (IntegerLabel (pos 3) (unsigned_type 8)) 16 24 NoMembers) NoMembers))) NoMembers)))) 22 7
unfolding bits_of binary number digits numeral_onto groups_from modulo with_sign converted is_signed_in brought prefixed
    shifted_left shifted_right on_common on_integers on_bits on_scaled on_texts combined to_integer to_offset in_unit
    divisor_in greatest_divisor and_operand evaluation constraint condition field_start extent_of then_ok framed
    from_inside constrained number_plan read_plan after_byte text_plan after_element elements_plan
    after_attempt plan least_width
greatest_end = plan_means (bits_of (1 ∷ 2 ∷ 3 ∷ 4 ∷ [])) _ Big no_values 0

-- struct { byte[0] e @ 9#B; }
label_past_end : Means (bits_of (0 ∷ 0 ∷ 0 ∷ 0 ∷ 0 ∷ 0 ∷ 0 ∷ 0 ∷ [])) (StructOf (Some (84 ∷ [])) false
    (FieldThen (Some (101 ∷ [])) None (ArrayOf (IntegerOf (unsigned_type 8)) (ByCount (Number (signed_type 32) 0))) None
    (Some (InUnit 8 (Number (signed_type 32) 9))) None NoFields))
    Big no_values 0 (Err (fault.End, 72)) 4 0
unfolding bits_of binary number digits numeral_onto groups_from modulo with_sign converted is_signed_in brought prefixed
    shifted_left shifted_right on_common on_integers on_bits on_scaled on_texts combined to_integer to_offset in_unit
    divisor_in greatest_divisor and_operand evaluation constraint condition field_start extent_of then_ok framed
    from_inside constrained number_plan read_plan after_byte text_plan after_element elements_plan
    after_attempt plan least_width
label_past_end = plan_means (bits_of (0 ∷ 0 ∷ 0 ∷ 0 ∷ 0 ∷ 0 ∷ 0 ∷ 0 ∷ [])) _ Big no_values 0

-- struct { byte[0] e @ -1#B; }
negative_label : Means (bits_of (0 ∷ 0 ∷ 0 ∷ 0 ∷ 0 ∷ 0 ∷ 0 ∷ 0 ∷ [])) (StructOf (Some (84 ∷ [])) false
    (FieldThen (Some (101 ∷ [])) None (ArrayOf (IntegerOf (unsigned_type 8)) (ByCount (Number (signed_type 32) 0))) None
    (Some (Before Minus (InUnit 8 (Number (signed_type 32) 1)))) None NoFields))
    Big no_values 0 (Err (fault.Bounds, 0)) 5 0
unfolding bits_of binary number digits numeral_onto groups_from modulo with_sign converted is_signed_in brought prefixed
    shifted_left shifted_right on_common on_integers on_bits on_scaled on_texts combined to_integer to_offset in_unit
    divisor_in greatest_divisor and_operand evaluation constraint condition field_start extent_of then_ok framed
    from_inside constrained number_plan read_plan after_byte text_plan after_element elements_plan
    after_attempt plan least_width
negative_label = plan_means (bits_of (0 ∷ 0 ∷ 0 ∷ 0 ∷ 0 ∷ 0 ∷ 0 ∷ 0 ∷ [])) _ Big no_values 0

-- struct G uint<16> { uint<4> hi; uint<12> lo; }, struct T { little G g; }
integral : Means (bits_of (52 ∷ 18 ∷ []))
    (StructOf (Some (84 ∷ [])) false (FieldThen (Some (103 ∷ [])) (Some prefix.Little)
    (IntegralOf (Some (71 ∷ [])) (unsigned_type 16) (PartThen (Some (104 ∷ 105 ∷ [])) None (IntegerOf (unsigned_type 4))
    None (PartThen (Some (108 ∷ 111 ∷ [])) None (IntegerOf (unsigned_type 12)) None NoParts))) None None None NoFields))
    Big no_values 0 (Ok (Mapped (StructLabel (Some (84 ∷ [])) ((Some (103 ∷ [])) ∷ [])) 0 16
    (MemberThen (Mapped (StructLabel (Some (71 ∷ [])) ((Some (104 ∷ 105 ∷ [])) ∷ (Some (108 ∷ 111 ∷ [])) ∷ [])) 0 16
    (MemberThen (Mapped (IntegerLabel (pos 1) (unsigned_type 4)) 0 4 NoMembers)
    (MemberThen (Mapped (IntegerLabel (pos 564) (unsigned_type 12)) 0 12 NoMembers) NoMembers))) NoMembers))) 7 4
unfolding bits_of binary number digits numeral_onto groups_from modulo with_sign converted is_signed_in brought prefixed
    shifted_left shifted_right on_common on_integers on_bits on_scaled on_texts combined to_integer to_offset in_unit
    divisor_in greatest_divisor and_operand evaluation constraint condition field_start extent_of then_ok framed
    from_inside constrained number_plan read_plan after_byte text_plan after_element elements_plan
    after_attempt plan least_width
integral = plan_means (bits_of (52 ∷ 18 ∷ [])) _ Big no_values 0

-- struct { string s : s == "hi"; string[] rest; byte t if rest'length == 2; }
strings : Means (bits_of (104 ∷ 105 ∷ 0 ∷ 97 ∷ 0 ∷ 98 ∷ 0 ∷ 99 ∷ []))
    (StructOf (Some (84 ∷ [])) false (FieldThen (Some (115 ∷ [])) None StringOf
    (Some (Between Equal (Name 0 0) (Text (104 ∷ 105 ∷ [])))) None None (FieldThen (Some (114 ∷ 101 ∷ 115 ∷ 116 ∷ []))
    None (ArrayOf StringOf Unbounded) None None None (FieldThen (Some (116 ∷ [])) None (IntegerOf (unsigned_type 8))
    None None (Some (Between Equal (AttributeOf Length (Name 0 1)) (Number (signed_type 32) 2))) NoFields))))
    Big no_values 0 (Ok (Mapped
    (StructLabel (Some (84 ∷ [])) ((Some (115 ∷ [])) ∷ (Some (114 ∷ 101 ∷ 115 ∷ 116 ∷ [])) ∷ (Some (116 ∷ [])) ∷ []))
    0 64 (MemberThen (Mapped (TextLabel (104 ∷ 105 ∷ [])) 0 24 NoMembers)
    (MemberThen (Mapped ArrayLabel 24 56 (MemberThen (Mapped (TextLabel (97 ∷ [])) 24 40 NoMembers)
    (MemberThen (Mapped (TextLabel (98 ∷ [])) 40 56 NoMembers) NoMembers)))
    (MemberThen (Mapped (IntegerLabel (pos 99) (unsigned_type 8)) 56 64 NoMembers) NoMembers)))))
    31 11
unfolding bits_of binary number digits numeral_onto groups_from modulo with_sign converted is_signed_in brought prefixed
    shifted_left shifted_right on_common on_integers on_bits on_scaled on_texts combined to_integer to_offset in_unit
    divisor_in greatest_divisor and_operand evaluation constraint condition field_start extent_of then_ok framed
    from_inside constrained number_plan read_plan after_byte text_plan after_element elements_plan
    after_attempt plan least_width
strings = plan_means (bits_of (104 ∷ 105 ∷ 0 ∷ 97 ∷ 0 ∷ 98 ∷ 0 ∷ 99 ∷ [])) _ Big no_values 0

-- struct { offset<uint<8>,B> len; byte[len] data : data'size == len; offset<int<16>,4> o; }
offsets : Means (bits_of (2 ∷ 170 ∷ 187 ∷ 255 ∷ 254 ∷ [])) (StructOf (Some (84 ∷ [])) false
    (FieldThen (Some (108 ∷ 101 ∷ 110 ∷ [])) None (OffsetOf (unsigned_type 8) 8) None None None
    (FieldThen (Some (100 ∷ 97 ∷ 116 ∷ 97 ∷ [])) None (ArrayOf (IntegerOf (unsigned_type 8)) (BySize (Name 0 0)))
    (Some (Between Equal (AttributeOf Size (Name 0 1)) (Name 0 0))) None None
    (FieldThen (Some (111 ∷ [])) None (OffsetOf (signed_type 16) 4) None None None NoFields))))
    Big no_values 0 (Ok (Mapped (StructLabel (Some (84 ∷ []))
    ((Some (108 ∷ 101 ∷ 110 ∷ [])) ∷ (Some (100 ∷ 97 ∷ 116 ∷ 97 ∷ [])) ∷ (Some (111 ∷ [])) ∷ []))
    0 40 (MemberThen (Mapped (OffsetLabel (pos 2) (unsigned_type 8) 8) 0 8 NoMembers)
    (MemberThen (Mapped ArrayLabel 8 24 (MemberThen (Mapped (IntegerLabel (pos 170) (unsigned_type 8)) 8 16 NoMembers)
    (MemberThen (Mapped (IntegerLabel (pos 187) (unsigned_type 8)) 16 24 NoMembers) NoMembers)))
    (MemberThen (Mapped (OffsetLabel (negsuc 1) (signed_type 16) 4) 24 40 NoMembers) NoMembers)))))
    16 6
unfolding bits_of binary number digits numeral_onto groups_from modulo with_sign converted is_signed_in brought prefixed
    shifted_left shifted_right on_common on_integers on_bits on_scaled on_texts combined to_integer to_offset in_unit
    divisor_in greatest_divisor and_operand evaluation constraint condition field_start extent_of then_ok framed
    from_inside constrained number_plan read_plan after_byte text_plan after_element elements_plan
    after_attempt plan least_width
offsets = plan_means (bits_of (2 ∷ 170 ∷ 187 ∷ 255 ∷ 254 ∷ [])) _ Big no_values 0

-- struct { byte f; byte x if f == 1; byte y; }
absent_field : Means (bits_of (0 ∷ 5 ∷ [])) (StructOf (Some (84 ∷ [])) false
    (FieldThen (Some (102 ∷ [])) None (IntegerOf (unsigned_type 8)) None None None (FieldThen (Some (120 ∷ [])) None
    (IntegerOf (unsigned_type 8)) None None (Some (Between Equal (Name 0 0) (Number (signed_type 32) 1)))
    (FieldThen (Some (121 ∷ [])) None (IntegerOf (unsigned_type 8)) None None None NoFields))))
    Big no_values 0
    (Ok (Mapped (StructLabel (Some (84 ∷ [])) ((Some (102 ∷ [])) ∷ (Some (120 ∷ [])) ∷ (Some (121 ∷ [])) ∷ [])) 0 16
    (MemberThen (Mapped (IntegerLabel (pos 0) (unsigned_type 8)) 0 8 NoMembers)
    (AbsentThen (MemberThen (Mapped (IntegerLabel (pos 5) (unsigned_type 8)) 8 16 NoMembers) NoMembers)))))
    9 3
unfolding bits_of binary number digits numeral_onto groups_from modulo with_sign converted is_signed_in brought prefixed
    shifted_left shifted_right on_common on_integers on_bits on_scaled on_texts combined to_integer to_offset in_unit
    divisor_in greatest_divisor and_operand evaluation constraint condition field_start extent_of then_ok framed
    from_inside constrained number_plan read_plan after_byte text_plan after_element elements_plan
    after_attempt plan least_width
absent_field = plan_means (bits_of (0 ∷ 5 ∷ [])) _ Big no_values 0

-- struct { byte f; byte x if f == 1; byte y : x == y; }
absent_named : Means (bits_of (0 ∷ 5 ∷ [])) (StructOf (Some (84 ∷ [])) false (FieldThen (Some (102 ∷ [])) None
    (IntegerOf (unsigned_type 8)) None None None (FieldThen (Some (120 ∷ [])) None (IntegerOf (unsigned_type 8)) None
    None (Some (Between Equal (Name 0 0) (Number (signed_type 32) 1))) (FieldThen (Some (121 ∷ [])) None
    (IntegerOf (unsigned_type 8)) (Some (Between Equal (Name 0 1) (Name 0 2))) None None NoFields))))
    Big no_values 0 (Err (fault.Absent, 8)) 11 2
unfolding bits_of binary number digits numeral_onto groups_from modulo with_sign converted is_signed_in brought prefixed
    shifted_left shifted_right on_common on_integers on_bits on_scaled on_texts combined to_integer to_offset in_unit
    divisor_in greatest_divisor and_operand evaluation constraint condition field_start extent_of then_ok framed
    from_inside constrained number_plan read_plan after_byte text_plan after_element elements_plan
    after_attempt plan least_width
absent_named = plan_means (bits_of (0 ∷ 5 ∷ [])) _ Big no_values 0

-- struct { int<8> a : a + 100B > 0; }
overflow : Means (bits_of (100 ∷ []))
    (StructOf (Some (84 ∷ [])) false (FieldThen (Some (97 ∷ [])) None (IntegerOf (signed_type 8))
    (Some (Between Greater (Between Add (Name 0 0) (Number (signed_type 8) 100)) (Number (signed_type 32) 0))) None None
    NoFields))
    Big no_values 0 (Err (fault.Overflow, 0)) 7 1
unfolding bits_of binary number digits numeral_onto groups_from modulo with_sign converted is_signed_in brought prefixed
    shifted_left shifted_right on_common on_integers on_bits on_scaled on_texts combined to_integer to_offset in_unit
    divisor_in greatest_divisor and_operand evaluation constraint condition field_start extent_of then_ok framed
    from_inside constrained number_plan read_plan after_byte text_plan after_element elements_plan
    after_attempt plan least_width
overflow = plan_means (bits_of (100 ∷ [])) _ Big no_values 0

-- struct { byte n; byte[2] xs : xs[n] == 0; }
index_past_end : Means (bits_of (2 ∷ 0 ∷ 0 ∷ [])) (StructOf (Some (84 ∷ [])) false
    (FieldThen (Some (110 ∷ [])) None (IntegerOf (unsigned_type 8)) None None None (FieldThen (Some (120 ∷ 115 ∷ []))
    None (ArrayOf (IntegerOf (unsigned_type 8)) (ByCount (Number (signed_type 32) 2)))
    (Some (Between Equal (Index (Name 0 1) (Name 0 0)) (Number (signed_type 32) 0))) None None NoFields)))
    Big no_values 0 (Err (fault.Index, 8)) 14 4
unfolding bits_of binary number digits numeral_onto groups_from modulo with_sign converted is_signed_in brought prefixed
    shifted_left shifted_right on_common on_integers on_bits on_scaled on_texts combined to_integer to_offset in_unit
    divisor_in greatest_divisor and_operand evaluation constraint condition field_start extent_of then_ok framed
    from_inside constrained number_plan read_plan after_byte text_plan after_element elements_plan
    after_attempt plan least_width
index_past_end = plan_means (bits_of (2 ∷ 0 ∷ 0 ∷ [])) _ Big no_values 0

-- struct { byte a : 1 << 32; }
wide_shift : Means (bits_of (0 ∷ []))
    (StructOf (Some (84 ∷ [])) false (FieldThen (Some (97 ∷ [])) None (IntegerOf (unsigned_type 8))
    (Some (Between ShiftLeft (Number (signed_type 32) 1) (Number (signed_type 32) 32))) None None NoFields))
    Big no_values 0 (Err (fault.Index, 0)) 6 1
unfolding bits_of binary number digits numeral_onto groups_from modulo with_sign converted is_signed_in brought prefixed
    shifted_left shifted_right on_common on_integers on_bits on_scaled on_texts combined to_integer to_offset in_unit
    divisor_in greatest_divisor and_operand evaluation constraint condition field_start extent_of then_ok framed
    from_inside constrained number_plan read_plan after_byte text_plan after_element elements_plan
    after_attempt plan least_width
wide_shift = plan_means (bits_of (0 ∷ [])) _ Big no_values 0

-- struct { int<32> a : a < 1U; }
unsigned_comparison : Means (bits_of (255 ∷ 255 ∷ 255 ∷ 255 ∷ []))
    (StructOf (Some (84 ∷ [])) false (FieldThen (Some (97 ∷ [])) None (IntegerOf (signed_type 32))
    (Some (Between Less (Name 0 0) (Number (unsigned_type 32) 1))) None None NoFields))
    Big no_values 0 (Err (fault.Constraint, 0)) 6 1
unfolding bits_of binary number digits numeral_onto groups_from modulo with_sign converted is_signed_in brought prefixed
    shifted_left shifted_right on_common on_integers on_bits on_scaled on_texts combined to_integer to_offset in_unit
    divisor_in greatest_divisor and_operand evaluation constraint condition field_start extent_of then_ok framed
    from_inside constrained number_plan read_plan after_byte text_plan after_element elements_plan
    after_attempt plan least_width
unsigned_comparison = plan_means (bits_of (255 ∷ 255 ∷ 255 ∷ 255 ∷ [])) _ Big no_values 0

-- struct { byte a : 10 - 4 - 3 == a; }
grouped_left : Means (bits_of (3 ∷ []))
    (StructOf (Some (84 ∷ [])) false (FieldThen (Some (97 ∷ [])) None (IntegerOf (unsigned_type 8))
    (Some (Between Equal (Between Subtract (Between Subtract (Number (signed_type 32) 10) (Number (signed_type 32) 4))
    (Number (signed_type 32) 3)) (Name 0 0))) None None NoFields)) Big no_values 0
    (Ok (Mapped (StructLabel (Some (84 ∷ [])) ((Some (97 ∷ [])) ∷ [])) 0 8
    (MemberThen (Mapped (IntegerLabel (pos 3) (unsigned_type 8)) 0 8 NoMembers) NoMembers))) 10 2
unfolding bits_of binary number digits numeral_onto groups_from modulo with_sign converted is_signed_in brought prefixed
    shifted_left shifted_right on_common on_integers on_bits on_scaled on_texts combined to_integer to_offset in_unit
    divisor_in greatest_divisor and_operand evaluation constraint condition field_start extent_of then_ok framed
    from_inside constrained number_plan read_plan after_byte text_plan after_element elements_plan
    after_attempt plan least_width
grouped_left = plan_means (bits_of (3 ∷ [])) _ Big no_values 0

-- struct { byte a : 3#b + 1#B == 11#b && 17#b / 1#B == 2 && 17#b % 1#B == 1#b; }
offset_arithmetic : Means (bits_of (0 ∷ [])) (StructOf (Some (84 ∷ [])) false
    (FieldThen (Some (97 ∷ [])) None (IntegerOf (unsigned_type 8)) (Some (Between LogicalAnd (Between LogicalAnd
    (Between Equal (Between Add (InUnit 1 (Number (signed_type 32) 3)) (InUnit 8 (Number (signed_type 32) 1)))
    (InUnit 1 (Number (signed_type 32) 11)))
    (Between Equal (Between Divide (InUnit 1 (Number (signed_type 32) 17)) (InUnit 8 (Number (signed_type 32) 1)))
    (Number (signed_type 32) 2)))
    (Between Equal (Between Remainder (InUnit 1 (Number (signed_type 32) 17)) (InUnit 8 (Number (signed_type 32) 1)))
    (InUnit 1 (Number (signed_type 32) 1)))))
    None None NoFields))
    Big no_values 0 (Ok (Mapped (StructLabel (Some (84 ∷ [])) ((Some (97 ∷ [])) ∷ [])) 0 8
    (MemberThen (Mapped (IntegerLabel (pos 0) (unsigned_type 8)) 0 8 NoMembers) NoMembers))) 28 2
unfolding bits_of binary number digits numeral_onto groups_from modulo with_sign converted is_signed_in brought prefixed
    shifted_left shifted_right on_common on_integers on_bits on_scaled on_texts combined to_integer to_offset in_unit
    divisor_in greatest_divisor and_operand evaluation constraint condition field_start extent_of then_ok framed
    from_inside constrained number_plan read_plan after_byte text_plan after_element elements_plan
    after_attempt plan least_width
offset_arithmetic = plan_means (bits_of (0 ∷ [])) _ Big no_values 0

-- pinned struct { uint<16> w; byte hi; }
pinned : Means (bits_of (18 ∷ 52 ∷ []))
    (StructOf (Some (84 ∷ [])) true (FieldThen (Some (119 ∷ [])) None (IntegerOf (unsigned_type 16)) None None None
    (FieldThen (Some (104 ∷ 105 ∷ [])) None (IntegerOf (unsigned_type 8)) None None None NoFields)))
    Big no_values 0 (Ok (Mapped (StructLabel (Some (84 ∷ [])) ((Some (119 ∷ [])) ∷ (Some (104 ∷ 105 ∷ [])) ∷ [])) 0 16
    (MemberThen (Mapped (IntegerLabel (pos 4660) (unsigned_type 16)) 0 16 NoMembers)
    (MemberThen (Mapped (IntegerLabel (pos 18) (unsigned_type 8)) 0 8 NoMembers) NoMembers))))
    5 3
unfolding bits_of binary number digits numeral_onto groups_from modulo with_sign converted is_signed_in brought prefixed
    shifted_left shifted_right on_common on_integers on_bits on_scaled on_texts combined to_integer to_offset in_unit
    divisor_in greatest_divisor and_operand evaluation constraint condition field_start extent_of then_ok framed
    from_inside constrained number_plan read_plan after_byte text_plan after_element elements_plan
    after_attempt plan least_width
pinned = plan_means (bits_of (18 ∷ 52 ∷ [])) _ Big no_values 0

-- struct { byte n; struct { byte[n] d; byte; } body; }
inline_struct : Means (bits_of (1 ∷ 5 ∷ 6 ∷ [])) (StructOf (Some (84 ∷ [])) false (FieldThen (Some (110 ∷ [])) None
    (IntegerOf (unsigned_type 8)) None None None (FieldThen (Some (98 ∷ 111 ∷ 100 ∷ 121 ∷ [])) None (StructOf None false
    (FieldThen (Some (100 ∷ [])) None (ArrayOf (IntegerOf (unsigned_type 8)) (ByCount (Name 1 0))) None None None
    (FieldThen None None (IntegerOf (unsigned_type 8)) None None None NoFields))) None None None NoFields))) Big
    no_values 0 (Ok (Mapped (StructLabel (Some (84 ∷ [])) ((Some (110 ∷ [])) ∷ (Some (98 ∷ 111 ∷ 100 ∷ 121 ∷ [])) ∷ []))
    0 24 (MemberThen (Mapped (IntegerLabel (pos 1) (unsigned_type 8)) 0 8 NoMembers)
    (MemberThen (Mapped (StructLabel None ((Some (100 ∷ [])) ∷ None ∷ [])) 8 24 (MemberThen
    (Mapped ArrayLabel 8 16 (MemberThen (Mapped (IntegerLabel (pos 5) (unsigned_type 8)) 8 16 NoMembers) NoMembers))
    (MemberThen (Mapped (IntegerLabel (pos 6) (unsigned_type 8)) 16 24 NoMembers) NoMembers))) NoMembers)))) 12 6
unfolding bits_of binary number digits numeral_onto groups_from modulo with_sign converted is_signed_in brought prefixed
    shifted_left shifted_right on_common on_integers on_bits on_scaled on_texts combined to_integer to_offset in_unit
    divisor_in greatest_divisor and_operand evaluation constraint condition field_start extent_of then_ok framed
    from_inside constrained number_plan read_plan after_byte text_plan after_element elements_plan
    after_attempt plan least_width
inline_struct = plan_means (bits_of (1 ∷ 5 ∷ 6 ∷ [])) _ Big no_values 0

inline_struct_0 : Means (bits_of []) (StructOf (Some (84 ∷ [])) false (FieldThen (Some (110 ∷ [])) None
    (IntegerOf (unsigned_type 8)) None None None (FieldThen (Some (98 ∷ 111 ∷ 100 ∷ 121 ∷ [])) None
    (StructOf None false (FieldThen (Some (100 ∷ [])) None (ArrayOf (IntegerOf (unsigned_type 8)) (ByCount (Name 1 0)))
    None None None (FieldThen None None (IntegerOf (unsigned_type 8)) None None None NoFields)))
    None None None NoFields)))
    Big no_values 0 (Err (fault.End, 0)) 3 0
unfolding bits_of binary number digits numeral_onto groups_from modulo with_sign converted is_signed_in brought prefixed
    shifted_left shifted_right on_common on_integers on_bits on_scaled on_texts combined to_integer to_offset in_unit
    divisor_in greatest_divisor and_operand evaluation constraint condition field_start extent_of then_ok framed
    from_inside constrained number_plan read_plan after_byte text_plan after_element elements_plan
    after_attempt plan least_width
inline_struct_0 = plan_means (bits_of []) _ Big no_values 0

inline_struct_1 : Means (bits_of (1 ∷ [])) (StructOf (Some (84 ∷ [])) false (FieldThen (Some (110 ∷ [])) None
    (IntegerOf (unsigned_type 8)) None None None (FieldThen (Some (98 ∷ 111 ∷ 100 ∷ 121 ∷ [])) None
    (StructOf None false (FieldThen (Some (100 ∷ [])) None (ArrayOf (IntegerOf (unsigned_type 8)) (ByCount (Name 1 0)))
    None None None (FieldThen None None (IntegerOf (unsigned_type 8)) None None None NoFields)))
    None None None NoFields)))
    Big no_values 0 (Err (fault.End, 8)) 10 1
unfolding bits_of binary number digits numeral_onto groups_from modulo with_sign converted is_signed_in brought prefixed
    shifted_left shifted_right on_common on_integers on_bits on_scaled on_texts combined to_integer to_offset in_unit
    divisor_in greatest_divisor and_operand evaluation constraint condition field_start extent_of then_ok framed
    from_inside constrained number_plan read_plan after_byte text_plan after_element elements_plan
    after_attempt plan least_width
inline_struct_1 = plan_means (bits_of (1 ∷ [])) _ Big no_values 0

inline_struct_2 : Means (bits_of (1 ∷ 5 ∷ [])) (StructOf (Some (84 ∷ [])) false (FieldThen (Some (110 ∷ [])) None
    (IntegerOf (unsigned_type 8)) None None None (FieldThen (Some (98 ∷ 111 ∷ 100 ∷ 121 ∷ [])) None
    (StructOf None false (FieldThen (Some (100 ∷ [])) None (ArrayOf (IntegerOf (unsigned_type 8)) (ByCount (Name 1 0)))
    None None None (FieldThen None None (IntegerOf (unsigned_type 8)) None None None NoFields)))
    None None None NoFields)))
    Big no_values 0 (Err (fault.End, 16)) 12 3
unfolding bits_of binary number digits numeral_onto groups_from modulo with_sign converted is_signed_in brought prefixed
    shifted_left shifted_right on_common on_integers on_bits on_scaled on_texts combined to_integer to_offset in_unit
    divisor_in greatest_divisor and_operand evaluation constraint condition field_start extent_of then_ok framed
    from_inside constrained number_plan read_plan after_byte text_plan after_element elements_plan
    after_attempt plan least_width
inline_struct_2 = plan_means (bits_of (1 ∷ 5 ∷ [])) _ Big no_values 0

-- struct G uint<8> { uint<4> hi : hi != 0; uint<4> lo; }, struct T { G[] gs; byte z; }
integral_elements : Means (bits_of (18 ∷ 5 ∷ [])) (StructOf (Some (84 ∷ [])) false (FieldThen (Some (103 ∷ 115 ∷ []))
    None (ArrayOf (IntegralOf (Some (71 ∷ [])) (unsigned_type 8) (PartThen (Some (104 ∷ 105 ∷ [])) None
    (IntegerOf (unsigned_type 4)) (Some (Between NotEqual (Name 0 0) (Number (signed_type 32) 0)))
    (PartThen (Some (108 ∷ 111 ∷ [])) None (IntegerOf (unsigned_type 4)) None NoParts)))
    Unbounded) None None None (FieldThen (Some (122 ∷ [])) None (IntegerOf (unsigned_type 8)) None None None NoFields)))
    Big no_values 0 (Ok (Mapped (StructLabel (Some (84 ∷ [])) ((Some (103 ∷ 115 ∷ [])) ∷ (Some (122 ∷ [])) ∷ [])) 0 16
    (MemberThen (Mapped ArrayLabel 0 8
    (MemberThen (Mapped (StructLabel (Some (71 ∷ [])) ((Some (104 ∷ 105 ∷ [])) ∷ (Some (108 ∷ 111 ∷ [])) ∷ [])) 0 8
    (MemberThen (Mapped (IntegerLabel (pos 1) (unsigned_type 4)) 0 4 NoMembers)
    (MemberThen (Mapped (IntegerLabel (pos 2) (unsigned_type 4)) 0 4 NoMembers) NoMembers)))
    NoMembers)) (MemberThen (Mapped (IntegerLabel (pos 5) (unsigned_type 8)) 8 16 NoMembers) NoMembers)))) 21 7
unfolding bits_of binary number digits numeral_onto groups_from modulo with_sign converted is_signed_in brought prefixed
    shifted_left shifted_right on_common on_integers on_bits on_scaled on_texts combined to_integer to_offset in_unit
    divisor_in greatest_divisor and_operand evaluation constraint condition field_start extent_of then_ok framed
    from_inside constrained number_plan read_plan after_byte text_plan after_element elements_plan
    after_attempt plan least_width
integral_elements = plan_means (bits_of (18 ∷ 5 ∷ [])) _ Big no_values 0

-- string
string_bytes : Means (bits_of (97 ∷ 34 ∷ 92 ∷ 10 ∷ 9 ∷ 7 ∷ 255 ∷ 0 ∷ [])) StringOf Big no_values 0
    (Ok (Mapped (TextLabel (97 ∷ 34 ∷ 92 ∷ 10 ∷ 9 ∷ 7 ∷ 255 ∷ [])) 0 64 NoMembers)) 9 8
unfolding bits_of binary number digits numeral_onto groups_from modulo with_sign converted is_signed_in brought prefixed
    shifted_left shifted_right on_common on_integers on_bits on_scaled on_texts combined to_integer to_offset in_unit
    divisor_in greatest_divisor and_operand evaluation constraint condition field_start extent_of then_ok framed
    from_inside constrained number_plan read_plan after_byte text_plan after_element elements_plan
    after_attempt plan least_width
string_bytes = plan_means (bits_of (97 ∷ 34 ∷ 92 ∷ 10 ∷ 9 ∷ 7 ∷ 255 ∷ 0 ∷ [])) _ Big no_values 0

string_unended : Means (bits_of (97 ∷ 98 ∷ [])) StringOf Big no_values 0 (Err (fault.End, 0)) 4 2
unfolding bits_of binary number digits numeral_onto groups_from modulo with_sign converted is_signed_in brought prefixed
    shifted_left shifted_right on_common on_integers on_bits on_scaled on_texts combined to_integer to_offset in_unit
    divisor_in greatest_divisor and_operand evaluation constraint condition field_start extent_of then_ok framed
    from_inside constrained number_plan read_plan after_byte text_plan after_element elements_plan
    after_attempt plan least_width
string_unended = plan_means (bits_of (97 ∷ 98 ∷ [])) _ Big no_values 0

-- byte at 4#b
half_byte : Means (bits_of (18 ∷ 52 ∷ [])) (IntegerOf (unsigned_type 8)) Big no_values 4
    (Ok (Mapped (IntegerLabel (pos 35) (unsigned_type 8)) 4 12 NoMembers)) 1 1
unfolding bits_of binary number digits numeral_onto groups_from modulo with_sign converted is_signed_in brought prefixed
    shifted_left shifted_right on_common on_integers on_bits on_scaled on_texts combined to_integer to_offset in_unit
    divisor_in greatest_divisor and_operand evaluation constraint condition field_start extent_of then_ok framed
    from_inside constrained number_plan read_plan after_byte text_plan after_element elements_plan
    after_attempt plan least_width
half_byte = plan_means (bits_of (18 ∷ 52 ∷ [])) _ Big no_values 4

-- byte at 16#b
byte_at_end : Means (bits_of (18 ∷ 52 ∷ [])) (IntegerOf (unsigned_type 8)) Big no_values 16 (Err (fault.End, 16)) 1 0
unfolding bits_of binary number digits numeral_onto groups_from modulo with_sign converted is_signed_in brought prefixed
    shifted_left shifted_right on_common on_integers on_bits on_scaled on_texts combined to_integer to_offset in_unit
    divisor_in greatest_divisor and_operand evaluation constraint condition field_start extent_of then_ok framed
    from_inside constrained number_plan read_plan after_byte text_plan after_element elements_plan
    after_attempt plan least_width
byte_at_end = plan_means (bits_of (18 ∷ 52 ∷ [])) _ Big no_values 16

-- byte at 17#b
past_end_start : Means (bits_of (18 ∷ 52 ∷ [])) (IntegerOf (unsigned_type 8)) Big no_values 17 (Err (fault.End, 17)) 0 0
unfolding bits_of binary number digits numeral_onto groups_from modulo with_sign converted is_signed_in brought prefixed
    shifted_left shifted_right on_common on_integers on_bits on_scaled on_texts combined to_integer to_offset in_unit
    divisor_in greatest_divisor and_operand evaluation constraint condition field_start extent_of then_ok framed
    from_inside constrained number_plan read_plan after_byte text_plan after_element elements_plan
    after_attempt plan least_width
past_end_start = plan_means (bits_of (18 ∷ 52 ∷ [])) _ Big no_values 17

-- ushort in little-endian
little_short : Means (bits_of (18 ∷ 52 ∷ [])) (IntegerOf (unsigned_type 16)) Little no_values 0
    (Ok (Mapped (IntegerLabel (pos 13330) (unsigned_type 16)) 0 16 NoMembers)) 1 1
unfolding bits_of binary number digits numeral_onto groups_from modulo with_sign converted is_signed_in brought prefixed
    shifted_left shifted_right on_common on_integers on_bits on_scaled on_texts combined to_integer to_offset in_unit
    divisor_in greatest_divisor and_operand evaluation constraint condition field_start extent_of then_ok framed
    from_inside constrained number_plan read_plan after_byte text_plan after_element elements_plan
    after_attempt plan least_width
little_short = plan_means (bits_of (18 ∷ 52 ∷ [])) _ Little no_values 0

-- ulong
greatest : Means (bits_of (255 ∷ 255 ∷ 255 ∷ 255 ∷ 255 ∷ 255 ∷ 255 ∷ 255 ∷ [])) (IntegerOf (unsigned_type 64)) Big
    no_values 0 (Ok (Mapped (IntegerLabel (pos 18446744073709551615) (unsigned_type 64)) 0 64 NoMembers)) 1 1
unfolding bits_of binary number digits numeral_onto groups_from modulo with_sign converted is_signed_in brought prefixed
    shifted_left shifted_right on_common on_integers on_bits on_scaled on_texts combined to_integer to_offset in_unit
    divisor_in greatest_divisor and_operand evaluation constraint condition field_start extent_of then_ok framed
    from_inside constrained number_plan read_plan after_byte text_plan after_element elements_plan
    after_attempt plan least_width
greatest = plan_means (bits_of (255 ∷ 255 ∷ 255 ∷ 255 ∷ 255 ∷ 255 ∷ 255 ∷ 255 ∷ [])) _ Big no_values 0

-- long
minus_one : Means (bits_of (255 ∷ 255 ∷ 255 ∷ 255 ∷ 255 ∷ 255 ∷ 255 ∷ 255 ∷ [])) (IntegerOf (signed_type 64)) Big
    no_values 0 (Ok (Mapped (IntegerLabel (negsuc 0) (signed_type 64)) 0 64 NoMembers)) 1 1
unfolding bits_of binary number digits numeral_onto groups_from modulo with_sign converted is_signed_in brought prefixed
    shifted_left shifted_right on_common on_integers on_bits on_scaled on_texts combined to_integer to_offset in_unit
    divisor_in greatest_divisor and_operand evaluation constraint condition field_start extent_of then_ok framed
    from_inside constrained number_plan read_plan after_byte text_plan after_element elements_plan
    after_attempt plan least_width
minus_one = plan_means (bits_of (255 ∷ 255 ∷ 255 ∷ 255 ∷ 255 ∷ 255 ∷ 255 ∷ 255 ∷ [])) _ Big no_values 0

-- uint64 at 4#b
nine_bytes : Means (bits_of (1 ∷ 35 ∷ 69 ∷ 103 ∷ 137 ∷ 171 ∷ 205 ∷ 239 ∷ 1 ∷ [])) (IntegerOf (unsigned_type 64)) Big
    no_values 4 (Ok (Mapped (IntegerLabel (pos 1311768467463790320) (unsigned_type 64)) 4 68 NoMembers)) 1 1
unfolding bits_of binary number digits numeral_onto groups_from modulo with_sign converted is_signed_in brought prefixed
    shifted_left shifted_right on_common on_integers on_bits on_scaled on_texts combined to_integer to_offset in_unit
    divisor_in greatest_divisor and_operand evaluation constraint condition field_start extent_of then_ok framed
    from_inside constrained number_plan read_plan after_byte text_plan after_element elements_plan
    after_attempt plan least_width
nine_bytes = plan_means (bits_of (1 ∷ 35 ∷ 69 ∷ 103 ∷ 137 ∷ 171 ∷ 205 ∷ 239 ∷ 1 ∷ [])) _ Big no_values 4

-- struct {}
empty_struct : Means (bits_of []) (StructOf (Some (80 ∷ [])) false NoFields) Big no_values 0
    (Ok (Mapped (StructLabel (Some (80 ∷ [])) []) 0 0 NoMembers)) 1 1
unfolding bits_of binary number digits numeral_onto groups_from modulo with_sign converted is_signed_in brought prefixed
    shifted_left shifted_right on_common on_integers on_bits on_scaled on_texts combined to_integer to_offset in_unit
    divisor_in greatest_divisor and_operand evaluation constraint condition field_start extent_of then_ok framed
    from_inside constrained number_plan read_plan after_byte text_plan after_element elements_plan
    after_attempt plan least_width
empty_struct = plan_means (bits_of []) _ Big no_values 0

-- struct {} at 8#b
empty_struct_past_end : Means (bits_of []) (StructOf (Some (80 ∷ [])) false NoFields) Big no_values 8
    (Err (fault.End, 8)) 0 0
unfolding bits_of binary number digits numeral_onto groups_from modulo with_sign converted is_signed_in brought prefixed
    shifted_left shifted_right on_common on_integers on_bits on_scaled on_texts combined to_integer to_offset in_unit
    divisor_in greatest_divisor and_operand evaluation constraint condition field_start extent_of then_ok framed
    from_inside constrained number_plan read_plan after_byte text_plan after_element elements_plan
    after_attempt plan least_width
empty_struct_past_end = plan_means (bits_of []) _ Big no_values 8

-- struct P { byte x; }, struct { P p; byte y : y == p.x ? 1 : 0; }
choice : Means (bits_of (2 ∷ 2 ∷ [])) (StructOf (Some (84 ∷ [])) false (FieldThen (Some (112 ∷ [])) None (StructOf
    (Some (80 ∷ [])) false (FieldThen (Some (120 ∷ [])) None (IntegerOf (unsigned_type 8)) None None None NoFields))
    None None None (FieldThen (Some (121 ∷ [])) None (IntegerOf (unsigned_type 8)) (Some (Choice (Some (signed_type 32))
    (Between Equal (Name 0 1) (Select (Name 0 0) 0)) (Number (signed_type 32) 1) (Number (signed_type 32) 0)))
    None None NoFields)))
    Big no_values 0 (Ok (Mapped (StructLabel (Some (84 ∷ [])) ((Some (112 ∷ [])) ∷ (Some (121 ∷ [])) ∷ [])) 0 16
    (MemberThen (Mapped (StructLabel (Some (80 ∷ [])) ((Some (120 ∷ [])) ∷ [])) 0 8
    (MemberThen (Mapped (IntegerLabel (pos 2) (unsigned_type 8)) 0 8 NoMembers) NoMembers))
    (MemberThen (Mapped (IntegerLabel (pos 2) (unsigned_type 8)) 8 16 NoMembers) NoMembers))))
    13 4
unfolding bits_of binary number digits numeral_onto groups_from modulo with_sign converted is_signed_in brought prefixed
    shifted_left shifted_right on_common on_integers on_bits on_scaled on_texts combined to_integer to_offset in_unit
    divisor_in greatest_divisor and_operand evaluation constraint condition field_start extent_of then_ok framed
    from_inside constrained number_plan read_plan after_byte text_plan after_element elements_plan
    after_attempt plan least_width
choice = plan_means (bits_of (2 ∷ 2 ∷ [])) _ Big no_values 0

-- struct { byte a : a != 0 && 7 % a == 1; }
lazy_and : Means (bits_of (0 ∷ [])) (StructOf (Some (84 ∷ [])) false (FieldThen (Some (97 ∷ [])) None
    (IntegerOf (unsigned_type 8)) (Some (Between LogicalAnd (Between NotEqual (Name 0 0) (Number (signed_type 32) 0))
    (Between Equal (Between Remainder (Number (signed_type 32) 7) (Name 0 0)) (Number (signed_type 32) 1))))
    None None NoFields))
    Big no_values 0 (Err (fault.Constraint, 0)) 7 1
unfolding bits_of binary number digits numeral_onto groups_from modulo with_sign converted is_signed_in brought prefixed
    shifted_left shifted_right on_common on_integers on_bits on_scaled on_texts combined to_integer to_offset in_unit
    divisor_in greatest_divisor and_operand evaluation constraint condition field_start extent_of then_ok framed
    from_inside constrained number_plan read_plan after_byte text_plan after_element elements_plan
    after_attempt plan least_width
lazy_and = plan_means (bits_of (0 ∷ [])) _ Big no_values 0

lazy_and_on : Means (bits_of (3 ∷ [])) (StructOf (Some (84 ∷ [])) false (FieldThen (Some (97 ∷ [])) None
    (IntegerOf (unsigned_type 8)) (Some (Between LogicalAnd (Between NotEqual (Name 0 0) (Number (signed_type 32) 0))
    (Between Equal (Between Remainder (Number (signed_type 32) 7) (Name 0 0)) (Number (signed_type 32) 1))))
    None None NoFields))
    Big no_values 0 (Ok (Mapped (StructLabel (Some (84 ∷ [])) ((Some (97 ∷ [])) ∷ [])) 0 8
    (MemberThen (Mapped (IntegerLabel (pos 3) (unsigned_type 8)) 0 8 NoMembers) NoMembers))) 12 2
unfolding bits_of binary number digits numeral_onto groups_from modulo with_sign converted is_signed_in brought prefixed
    shifted_left shifted_right on_common on_integers on_bits on_scaled on_texts combined to_integer to_offset in_unit
    divisor_in greatest_divisor and_operand evaluation constraint condition field_start extent_of then_ok framed
    from_inside constrained number_plan read_plan after_byte text_plan after_element elements_plan
    after_attempt plan least_width
lazy_and_on = plan_means (bits_of (3 ∷ [])) _ Big no_values 0

-- struct { byte a : (a#B as offset<uint<8>,b>) == 16#b; }
conversion_of_offset : Means (bits_of (2 ∷ []))
    (StructOf (Some (84 ∷ [])) false (FieldThen (Some (97 ∷ [])) None (IntegerOf (unsigned_type 8)) (Some (Between Equal
    (Bracket (ToOffset (unsigned_type 8) 1 (InUnit 8 (Name 0 0)))) (InUnit 1 (Number (signed_type 32) 16))))
    None None NoFields))
    Big no_values 0 (Ok (Mapped (StructLabel (Some (84 ∷ [])) ((Some (97 ∷ [])) ∷ [])) 0 8
    (MemberThen (Mapped (IntegerLabel (pos 2) (unsigned_type 8)) 0 8 NoMembers) NoMembers))) 10 2
unfolding bits_of binary number digits numeral_onto groups_from modulo with_sign converted is_signed_in brought prefixed
    shifted_left shifted_right on_common on_integers on_bits on_scaled on_texts combined to_integer to_offset in_unit
    divisor_in greatest_divisor and_operand evaluation constraint condition field_start extent_of then_ok framed
    from_inside constrained number_plan read_plan after_byte text_plan after_element elements_plan
    after_attempt plan least_width
conversion_of_offset = plan_means (bits_of (2 ∷ [])) _ Big no_values 0

conversion_wraps : Means (bits_of (32 ∷ []))
    (StructOf (Some (84 ∷ [])) false (FieldThen (Some (97 ∷ [])) None (IntegerOf (unsigned_type 8)) (Some (Between Equal
    (Bracket (ToOffset (unsigned_type 8) 1 (InUnit 8 (Name 0 0)))) (InUnit 1 (Number (signed_type 32) 16))))
    None None NoFields))
    Big no_values 0 (Err (fault.Constraint, 0)) 10 1
unfolding bits_of binary number digits numeral_onto groups_from modulo with_sign converted is_signed_in brought prefixed
    shifted_left shifted_right on_common on_integers on_bits on_scaled on_texts combined to_integer to_offset in_unit
    divisor_in greatest_divisor and_operand evaluation constraint condition field_start extent_of then_ok framed
    from_inside constrained number_plan read_plan after_byte text_plan after_element elements_plan
    after_attempt plan least_width
conversion_wraps = plan_means (bits_of (32 ∷ [])) _ Big no_values 0

-- struct { string s : s == "hi"; }
string_differs : Means (bits_of (104 ∷ 111 ∷ 0 ∷ [])) (StructOf (Some (84 ∷ [])) false (FieldThen (Some (115 ∷ [])) None
    StringOf (Some (Between Equal (Name 0 0) (Text (104 ∷ 105 ∷ [])))) None None NoFields))
    Big no_values 0 (Err (fault.Constraint, 0)) 11 3
unfolding bits_of binary number digits numeral_onto groups_from modulo with_sign converted is_signed_in brought prefixed
    shifted_left shifted_right on_common on_integers on_bits on_scaled on_texts combined to_integer to_offset in_unit
    divisor_in greatest_divisor and_operand evaluation constraint condition field_start extent_of then_ok framed
    from_inside constrained number_plan read_plan after_byte text_plan after_element elements_plan
    after_attempt plan least_width
string_differs = plan_means (bits_of (104 ∷ 111 ∷ 0 ∷ [])) _ Big no_values 0

-- string at 4#b
string_at_half_byte : Means (bits_of (6 ∷ 128 ∷ 0 ∷ [])) StringOf Big no_values 4
    (Ok (Mapped (TextLabel (104 ∷ [])) 4 20 NoMembers)) 3 2
unfolding bits_of binary number digits numeral_onto groups_from modulo with_sign converted is_signed_in brought prefixed
    shifted_left shifted_right on_common on_integers on_bits on_scaled on_texts combined to_integer to_offset in_unit
    divisor_in greatest_divisor and_operand evaluation constraint condition field_start extent_of then_ok framed
    from_inside constrained number_plan read_plan after_byte text_plan after_element elements_plan
    after_attempt plan least_width
string_at_half_byte = plan_means (bits_of (6 ∷ 128 ∷ 0 ∷ [])) _ Big no_values 4

-- byte[2][]
nested_arrays : Means (bits_of (1 ∷ 2 ∷ 3 ∷ []))
    (ArrayOf (ArrayOf (IntegerOf (unsigned_type 8)) (ByCount (Number (signed_type 32) 2))) Unbounded) Big no_values 0
    (Ok (Mapped ArrayLabel 0 16
    (MemberThen (Mapped ArrayLabel 0 16 (MemberThen (Mapped (IntegerLabel (pos 1) (unsigned_type 8)) 0 8 NoMembers)
    (MemberThen (Mapped (IntegerLabel (pos 2) (unsigned_type 8)) 8 16 NoMembers) NoMembers))) NoMembers))) 15 5
unfolding bits_of binary number digits numeral_onto groups_from modulo with_sign converted is_signed_in brought prefixed
    shifted_left shifted_right on_common on_integers on_bits on_scaled on_texts combined to_integer to_offset in_unit
    divisor_in greatest_divisor and_operand evaluation constraint condition field_start extent_of then_ok framed
    from_inside constrained number_plan read_plan after_byte text_plan after_element elements_plan
    after_attempt plan least_width
nested_arrays = plan_means (bits_of (1 ∷ 2 ∷ 3 ∷ [])) _ Big no_values 0

-- byte[0 - 1]
negative_count : Means (bits_of (1 ∷ [])) (ArrayOf (IntegerOf (unsigned_type 8))
    (ByCount (Between Subtract (Number (signed_type 32) 0) (Number (signed_type 32) 1))))
    Big no_values 0 (Err (fault.Bounds, 0)) 4 0
unfolding bits_of binary number digits numeral_onto groups_from modulo with_sign converted is_signed_in brought prefixed
    shifted_left shifted_right on_common on_integers on_bits on_scaled on_texts combined to_integer to_offset in_unit
    divisor_in greatest_divisor and_operand evaluation constraint condition field_start extent_of then_ok framed
    from_inside constrained number_plan read_plan after_byte text_plan after_element elements_plan
    after_attempt plan least_width
negative_count = plan_means (bits_of (1 ∷ [])) _ Big no_values 0

-- byte[0#B] on no bits
empty_size : Means (bits_of []) (ArrayOf (IntegerOf (unsigned_type 8)) (BySize (InUnit 8 (Number (signed_type 32) 0))))
    Big no_values 0 (Ok (Mapped ArrayLabel 0 0 NoMembers)) 3 1
unfolding bits_of binary number digits numeral_onto groups_from modulo with_sign converted is_signed_in brought prefixed
    shifted_left shifted_right on_common on_integers on_bits on_scaled on_texts combined to_integer to_offset in_unit
    divisor_in greatest_divisor and_operand evaluation constraint condition field_start extent_of then_ok framed
    from_inside constrained number_plan read_plan after_byte text_plan after_element elements_plan
    after_attempt plan least_width
empty_size = plan_means (bits_of []) _ Big no_values 0

-- struct { byte tag; union { byte a : tag == 1; ushort b; } u; }
tagged_union : Means (bits_of (2 ∷ 0 ∷ 7 ∷ [])) (StructOf (Some (84 ∷ [])) false (FieldThen (Some (116 ∷ 97 ∷ 103 ∷ []))
    None (IntegerOf (unsigned_type 8)) None None None (FieldThen (Some (117 ∷ [])) None (UnionOf None (PartThen
    (Some (97 ∷ [])) None (IntegerOf (unsigned_type 8)) (Some (Between Equal (Name 1 0) (Number (signed_type 32) 1)))
    (PartThen (Some (98 ∷ [])) None (IntegerOf (unsigned_type 16)) None NoParts))) None None None NoFields))) Big
    no_values 0 (Ok (Mapped (StructLabel (Some (84 ∷ [])) ((Some (116 ∷ 97 ∷ 103 ∷ [])) ∷ (Some (117 ∷ [])) ∷ [])) 0 24
    (MemberThen (Mapped (IntegerLabel (pos 2) (unsigned_type 8)) 0 8 NoMembers)
    (MemberThen (Mapped (UnionLabel None 1 (Some (98 ∷ []))) 8 24
    (MemberThen (Mapped (IntegerLabel (pos 7) (unsigned_type 16)) 8 24 NoMembers) NoMembers)) NoMembers)))) 12 5
unfolding bits_of binary number digits numeral_onto groups_from modulo with_sign converted is_signed_in brought prefixed
    shifted_left shifted_right on_common on_integers on_bits on_scaled on_texts combined to_integer to_offset in_unit
    divisor_in greatest_divisor and_operand evaluation constraint condition field_start extent_of then_ok framed
    from_inside constrained number_plan read_plan after_byte text_plan after_element elements_plan
    after_attempt plan least_width
tagged_union = plan_means (bits_of (2 ∷ 0 ∷ 7 ∷ [])) _ Big no_values 0

-- struct { union { byte a : a == 1; byte b; } u; byte c : u.a == 1; }
alternative_not_taken : Means (bits_of (2 ∷ 1 ∷ []))
    (StructOf (Some (84 ∷ [])) false (FieldThen (Some (117 ∷ [])) None (UnionOf None (PartThen (Some (97 ∷ [])) None
    (IntegerOf (unsigned_type 8)) (Some (Between Equal (Name 0 0) (Number (signed_type 32) 1)))
    (PartThen (Some (98 ∷ [])) None (IntegerOf (unsigned_type 8)) None NoParts)))
    None None None (FieldThen (Some (99 ∷ [])) None (IntegerOf (unsigned_type 8))
    (Some (Between Equal (Select (Name 0 0) 0) (Number (signed_type 32) 1))) None None NoFields)))
    Big no_values 0 (Err (fault.Absent, 8)) 15 4
unfolding bits_of binary number digits numeral_onto groups_from modulo with_sign converted is_signed_in brought prefixed
    shifted_left shifted_right on_common on_integers on_bits on_scaled on_texts combined to_integer to_offset in_unit
    divisor_in greatest_divisor and_operand evaluation constraint condition field_start extent_of then_ok framed
    from_inside constrained number_plan read_plan after_byte text_plan after_element elements_plan
    after_attempt plan least_width
alternative_not_taken = plan_means (bits_of (2 ∷ 1 ∷ [])) _ Big no_values 0

-- struct { byte n; struct { byte n; byte[n] d; } body; }
inner_name_hides : Means (bits_of (5 ∷ 1 ∷ 9 ∷ [])) (StructOf (Some (84 ∷ [])) false (FieldThen (Some (110 ∷ [])) None
    (IntegerOf (unsigned_type 8)) None None None (FieldThen (Some (98 ∷ 111 ∷ 100 ∷ 121 ∷ [])) None (StructOf None false
    (FieldThen (Some (110 ∷ [])) None (IntegerOf (unsigned_type 8)) None None None (FieldThen (Some (100 ∷ [])) None
    (ArrayOf (IntegerOf (unsigned_type 8)) (ByCount (Name 0 0))) None None None NoFields))) None None None NoFields)))
    Big no_values 0
    (Ok (Mapped (StructLabel (Some (84 ∷ [])) ((Some (110 ∷ [])) ∷ (Some (98 ∷ 111 ∷ 100 ∷ 121 ∷ [])) ∷ [])) 0 24
    (MemberThen (Mapped (IntegerLabel (pos 5) (unsigned_type 8)) 0 8 NoMembers)
    (MemberThen (Mapped (StructLabel None ((Some (110 ∷ [])) ∷ (Some (100 ∷ [])) ∷ [])) 8 24
    (MemberThen (Mapped (IntegerLabel (pos 1) (unsigned_type 8)) 8 16 NoMembers) (MemberThen (Mapped ArrayLabel 16 24
    (MemberThen (Mapped (IntegerLabel (pos 9) (unsigned_type 8)) 16 24 NoMembers) NoMembers)) NoMembers))) NoMembers))))
    12 6
unfolding bits_of binary number digits numeral_onto groups_from modulo with_sign converted is_signed_in brought prefixed
    shifted_left shifted_right on_common on_integers on_bits on_scaled on_texts combined to_integer to_offset in_unit
    divisor_in greatest_divisor and_operand evaluation constraint condition field_start extent_of then_ok framed
    from_inside constrained number_plan read_plan after_byte text_plan after_element elements_plan
    after_attempt plan least_width
inner_name_hides = plan_means (bits_of (5 ∷ 1 ∷ 9 ∷ [])) _ Big no_values 0

-- struct I uint<8> { uint<4> a; int<4> b : b < 0; }, struct T int<16> { I i; int<8> c; }
integral_in_integral : Means (bits_of (31 ∷ 254 ∷ []))
    (IntegralOf (Some (84 ∷ [])) (signed_type 16) (PartThen (Some (105 ∷ [])) None (IntegralOf (Some (73 ∷ []))
    (unsigned_type 8) (PartThen (Some (97 ∷ [])) None (IntegerOf (unsigned_type 4)) None (PartThen (Some (98 ∷ [])) None
    (IntegerOf (signed_type 4)) (Some (Between Less (Name 0 1) (Number (signed_type 32) 0))) NoParts)))
    None (PartThen (Some (99 ∷ [])) None (IntegerOf (signed_type 8)) None NoParts)))
    Big no_values 0 (Ok (Mapped (StructLabel (Some (84 ∷ [])) ((Some (105 ∷ [])) ∷ (Some (99 ∷ [])) ∷ [])) 0 16
    (MemberThen (Mapped (StructLabel (Some (73 ∷ [])) ((Some (97 ∷ [])) ∷ (Some (98 ∷ [])) ∷ [])) 0 8
    (MemberThen (Mapped (IntegerLabel (pos 1) (unsigned_type 4)) 0 4 NoMembers)
    (MemberThen (Mapped (IntegerLabel (negsuc 0) (signed_type 4)) 0 4 NoMembers) NoMembers)))
    (MemberThen (Mapped (IntegerLabel (negsuc 1) (signed_type 8)) 0 8 NoMembers) NoMembers))))
    12 5
unfolding bits_of binary number digits numeral_onto groups_from modulo with_sign converted is_signed_in brought prefixed
    shifted_left shifted_right on_common on_integers on_bits on_scaled on_texts combined to_integer to_offset in_unit
    divisor_in greatest_divisor and_operand evaluation constraint condition field_start extent_of then_ok framed
    from_inside constrained number_plan read_plan after_byte text_plan after_element elements_plan
    after_attempt plan least_width
integral_in_integral = plan_means (bits_of (31 ∷ 254 ∷ [])) _ Big no_values 0

-- in little-endian
integral_in_integral_little : Means (bits_of (254 ∷ 31 ∷ []))
    (IntegralOf (Some (84 ∷ [])) (signed_type 16) (PartThen (Some (105 ∷ [])) None (IntegralOf (Some (73 ∷ []))
    (unsigned_type 8) (PartThen (Some (97 ∷ [])) None (IntegerOf (unsigned_type 4)) None (PartThen (Some (98 ∷ [])) None
    (IntegerOf (signed_type 4)) (Some (Between Less (Name 0 1) (Number (signed_type 32) 0))) NoParts)))
    None (PartThen (Some (99 ∷ [])) None (IntegerOf (signed_type 8)) None NoParts)))
    Little no_values 0 (Ok (Mapped (StructLabel (Some (84 ∷ [])) ((Some (105 ∷ [])) ∷ (Some (99 ∷ [])) ∷ [])) 0 16
    (MemberThen (Mapped (StructLabel (Some (73 ∷ [])) ((Some (97 ∷ [])) ∷ (Some (98 ∷ [])) ∷ [])) 0 8
    (MemberThen (Mapped (IntegerLabel (pos 1) (unsigned_type 4)) 0 4 NoMembers)
    (MemberThen (Mapped (IntegerLabel (negsuc 0) (signed_type 4)) 0 4 NoMembers) NoMembers)))
    (MemberThen (Mapped (IntegerLabel (negsuc 1) (signed_type 8)) 0 8 NoMembers) NoMembers))))
    12 5
unfolding bits_of binary number digits numeral_onto groups_from modulo with_sign converted is_signed_in brought prefixed
    shifted_left shifted_right on_common on_integers on_bits on_scaled on_texts combined to_integer to_offset in_unit
    divisor_in greatest_divisor and_operand evaluation constraint condition field_start extent_of then_ok framed
    from_inside constrained number_plan read_plan after_byte text_plan after_element elements_plan
    after_attempt plan least_width
integral_in_integral_little = plan_means (bits_of (254 ∷ 31 ∷ [])) _ Little no_values 0

integral_end : Means (bits_of (31 ∷ []))
    (IntegralOf (Some (84 ∷ [])) (signed_type 16) (PartThen (Some (105 ∷ [])) None (IntegralOf (Some (73 ∷ []))
    (unsigned_type 8) (PartThen (Some (97 ∷ [])) None (IntegerOf (unsigned_type 4)) None (PartThen (Some (98 ∷ [])) None
    (IntegerOf (signed_type 4)) (Some (Between Less (Name 0 1) (Number (signed_type 32) 0))) NoParts)))
    None (PartThen (Some (99 ∷ [])) None (IntegerOf (signed_type 8)) None NoParts)))
    Big no_values 0 (Err (fault.End, 0)) 1 0
unfolding bits_of binary number digits numeral_onto groups_from modulo with_sign converted is_signed_in brought prefixed
    shifted_left shifted_right on_common on_integers on_bits on_scaled on_texts combined to_integer to_offset in_unit
    divisor_in greatest_divisor and_operand evaluation constraint condition field_start extent_of then_ok framed
    from_inside constrained number_plan read_plan after_byte text_plan after_element elements_plan
    after_attempt plan least_width
integral_end = plan_means (bits_of (31 ∷ [])) _ Big no_values 0

-- at 8#b
integral_fault_outermost : Means (bits_of (0 ∷ 16 ∷ 0 ∷ []))
    (IntegralOf (Some (84 ∷ [])) (signed_type 16) (PartThen (Some (105 ∷ [])) None (IntegralOf (Some (73 ∷ []))
    (unsigned_type 8) (PartThen (Some (97 ∷ [])) None (IntegerOf (unsigned_type 4)) None (PartThen (Some (98 ∷ [])) None
    (IntegerOf (signed_type 4)) (Some (Between Less (Name 0 1) (Number (signed_type 32) 0))) NoParts)))
    None (PartThen (Some (99 ∷ [])) None (IntegerOf (signed_type 8)) None NoParts)))
    Big no_values 8 (Err (fault.Constraint, 8)) 10 2
unfolding bits_of binary number digits numeral_onto groups_from modulo with_sign converted is_signed_in brought prefixed
    shifted_left shifted_right on_common on_integers on_bits on_scaled on_texts combined to_integer to_offset in_unit
    divisor_in greatest_divisor and_operand evaluation constraint condition field_start extent_of then_ok framed
    from_inside constrained number_plan read_plan after_byte text_plan after_element elements_plan
    after_attempt plan least_width
integral_fault_outermost = plan_means (bits_of (0 ∷ 16 ∷ 0 ∷ [])) _ Big no_values 8

-- union U { ushort a : a == 1; byte b; }, U[]
wide_and_narrow : Means (bits_of (2 ∷ 3 ∷ 4 ∷ [])) (ArrayOf (UnionOf (Some (85 ∷ [])) (PartThen (Some (97 ∷ [])) None
    (IntegerOf (unsigned_type 16)) (Some (Between Equal (Name 0 0) (Number (signed_type 32) 1)))
    (PartThen (Some (98 ∷ [])) None (IntegerOf (unsigned_type 8)) None NoParts))) Unbounded) Big no_values 0
    (Ok (Mapped ArrayLabel 0 16 (MemberThen (Mapped (UnionLabel (Some (85 ∷ [])) 1 (Some (98 ∷ []))) 0 8
    (MemberThen (Mapped (IntegerLabel (pos 2) (unsigned_type 8)) 0 8 NoMembers) NoMembers))
    (MemberThen (Mapped (UnionLabel (Some (85 ∷ [])) 1 (Some (98 ∷ []))) 8 16
    (MemberThen (Mapped (IntegerLabel (pos 3) (unsigned_type 8)) 8 16 NoMembers) NoMembers)) NoMembers)))) 23 7
unfolding bits_of binary number digits numeral_onto groups_from modulo with_sign converted is_signed_in brought prefixed
    shifted_left shifted_right on_common on_integers on_bits on_scaled on_texts combined to_integer to_offset in_unit
    divisor_in greatest_divisor and_operand evaluation constraint condition field_start extent_of then_ok framed
    from_inside constrained number_plan read_plan after_byte text_plan after_element elements_plan
    after_attempt plan least_width
wide_and_narrow = plan_means (bits_of (2 ∷ 3 ∷ 4 ∷ [])) _ Big no_values 0

-- struct { little int<12> x; uint<4> y; }
little_signed : Means (bits_of (255 ∷ 255 ∷ []))
    (StructOf (Some (84 ∷ [])) false (FieldThen (Some (120 ∷ [])) (Some prefix.Little) (IntegerOf (signed_type 12)) None
    None None (FieldThen (Some (121 ∷ [])) None (IntegerOf (unsigned_type 4)) None None None NoFields)))
    Big no_values 0 (Ok (Mapped (StructLabel (Some (84 ∷ [])) ((Some (120 ∷ [])) ∷ (Some (121 ∷ [])) ∷ [])) 0 16
    (MemberThen (Mapped (IntegerLabel (negsuc 0) (signed_type 12)) 0 12 NoMembers)
    (MemberThen (Mapped (IntegerLabel (pos 15) (unsigned_type 4)) 12 16 NoMembers) NoMembers))))
    5 3
unfolding bits_of binary number digits numeral_onto groups_from modulo with_sign converted is_signed_in brought prefixed
    shifted_left shifted_right on_common on_integers on_bits on_scaled on_texts combined to_integer to_offset in_unit
    divisor_in greatest_divisor and_operand evaluation constraint condition field_start extent_of then_ok framed
    from_inside constrained number_plan read_plan after_byte text_plan after_element elements_plan
    after_attempt plan least_width
little_signed = plan_means (bits_of (255 ∷ 255 ∷ [])) _ Big no_values 0

-- struct { little offset<uint<16>,B> o; }
little_offset : Means (bits_of (2 ∷ 0 ∷ [])) (StructOf (Some (84 ∷ [])) false
    (FieldThen (Some (111 ∷ [])) (Some prefix.Little) (OffsetOf (unsigned_type 16) 8) None None None NoFields))
    Big no_values 0 (Ok (Mapped (StructLabel (Some (84 ∷ [])) ((Some (111 ∷ [])) ∷ [])) 0 16
    (MemberThen (Mapped (OffsetLabel (pos 2) (unsigned_type 16) 8) 0 16 NoMembers) NoMembers))) 3 2
unfolding bits_of binary number digits numeral_onto groups_from modulo with_sign converted is_signed_in brought prefixed
    shifted_left shifted_right on_common on_integers on_bits on_scaled on_texts combined to_integer to_offset in_unit
    divisor_in greatest_divisor and_operand evaluation constraint condition field_start extent_of then_ok framed
    from_inside constrained number_plan read_plan after_byte text_plan after_element elements_plan
    after_attempt plan least_width
little_offset = plan_means (bits_of (2 ∷ 0 ∷ [])) _ Big no_values 0

-- struct { byte a : a << 1 == 254UB; }
shift_left_wraps : Means (bits_of (255 ∷ []))
    (StructOf (Some (84 ∷ [])) false (FieldThen (Some (97 ∷ [])) None (IntegerOf (unsigned_type 8))
    (Some (Between Equal (Between ShiftLeft (Name 0 0) (Number (signed_type 32) 1)) (Number (unsigned_type 8) 254)))
    None None NoFields))
    Big no_values 0 (Ok (Mapped (StructLabel (Some (84 ∷ [])) ((Some (97 ∷ [])) ∷ [])) 0 8
    (MemberThen (Mapped (IntegerLabel (pos 255) (unsigned_type 8)) 0 8 NoMembers) NoMembers))) 8 2
unfolding bits_of binary number digits numeral_onto groups_from modulo with_sign converted is_signed_in brought prefixed
    shifted_left shifted_right on_common on_integers on_bits on_scaled on_texts combined to_integer to_offset in_unit
    divisor_in greatest_divisor and_operand evaluation constraint condition field_start extent_of then_ok framed
    from_inside constrained number_plan read_plan after_byte text_plan after_element elements_plan
    after_attempt plan least_width
shift_left_wraps = plan_means (bits_of (255 ∷ [])) _ Big no_values 0

-- struct { int<8> a : a >> 1 == -2; }
shift_right_floors : Means (bits_of (253 ∷ []))
    (StructOf (Some (84 ∷ [])) false (FieldThen (Some (97 ∷ [])) None (IntegerOf (signed_type 8)) (Some (Between Equal
    (Between ShiftRight (Name 0 0) (Number (signed_type 32) 1)) (Before Minus (Number (signed_type 32) 2))))
    None None NoFields))
    Big no_values 0 (Ok (Mapped (StructLabel (Some (84 ∷ [])) ((Some (97 ∷ [])) ∷ [])) 0 8
    (MemberThen (Mapped (IntegerLabel (negsuc 2) (signed_type 8)) 0 8 NoMembers) NoMembers))) 9 2
unfolding bits_of binary number digits numeral_onto groups_from modulo with_sign converted is_signed_in brought prefixed
    shifted_left shifted_right on_common on_integers on_bits on_scaled on_texts combined to_integer to_offset in_unit
    divisor_in greatest_divisor and_operand evaluation constraint condition field_start extent_of then_ok framed
    from_inside constrained number_plan read_plan after_byte text_plan after_element elements_plan
    after_attempt plan least_width
shift_right_floors = plan_means (bits_of (253 ∷ [])) _ Big no_values 0

-- struct { byte a : ~a == 240UB; }
complement : Means (bits_of (15 ∷ []))
    (StructOf (Some (84 ∷ [])) false (FieldThen (Some (97 ∷ [])) None (IntegerOf (unsigned_type 8))
    (Some (Between Equal (Before Complement (Name 0 0)) (Number (unsigned_type 8) 240))) None None NoFields))
    Big no_values 0 (Ok (Mapped (StructLabel (Some (84 ∷ [])) ((Some (97 ∷ [])) ∷ [])) 0 8
    (MemberThen (Mapped (IntegerLabel (pos 15) (unsigned_type 8)) 0 8 NoMembers) NoMembers))) 7 2
unfolding bits_of binary number digits numeral_onto groups_from modulo with_sign converted is_signed_in brought prefixed
    shifted_left shifted_right on_common on_integers on_bits on_scaled on_texts combined to_integer to_offset in_unit
    divisor_in greatest_divisor and_operand evaluation constraint condition field_start extent_of then_ok framed
    from_inside constrained number_plan read_plan after_byte text_plan after_element elements_plan
    after_attempt plan least_width
complement = plan_means (bits_of (15 ∷ [])) _ Big no_values 0

-- struct { uint<4> a : -a == 15UN; }
minus_wraps : Means (bits_of (31 ∷ []))
    (StructOf (Some (84 ∷ [])) false (FieldThen (Some (97 ∷ [])) None (IntegerOf (unsigned_type 4))
    (Some (Between Equal (Before Minus (Name 0 0)) (Number (unsigned_type 4) 15))) None None NoFields))
    Big no_values 0 (Ok (Mapped (StructLabel (Some (84 ∷ [])) ((Some (97 ∷ [])) ∷ [])) 0 4
    (MemberThen (Mapped (IntegerLabel (pos 1) (unsigned_type 4)) 0 4 NoMembers) NoMembers))) 7 2
unfolding bits_of binary number digits numeral_onto groups_from modulo with_sign converted is_signed_in brought prefixed
    shifted_left shifted_right on_common on_integers on_bits on_scaled on_texts combined to_integer to_offset in_unit
    divisor_in greatest_divisor and_operand evaluation constraint condition field_start extent_of then_ok framed
    from_inside constrained number_plan read_plan after_byte text_plan after_element elements_plan
    after_attempt plan least_width
minus_wraps = plan_means (bits_of (31 ∷ [])) _ Big no_values 0

-- struct { byte a : !a == 1; }
not_is_int : Means (bits_of (0 ∷ []))
    (StructOf (Some (84 ∷ [])) false (FieldThen (Some (97 ∷ [])) None (IntegerOf (unsigned_type 8))
    (Some (Between Equal (Before Not (Name 0 0)) (Number (signed_type 32) 1))) None None NoFields))
    Big no_values 0 (Ok (Mapped (StructLabel (Some (84 ∷ [])) ((Some (97 ∷ [])) ∷ [])) 0 8
    (MemberThen (Mapped (IntegerLabel (pos 0) (unsigned_type 8)) 0 8 NoMembers) NoMembers))) 7 2
unfolding bits_of binary number digits numeral_onto groups_from modulo with_sign converted is_signed_in brought prefixed
    shifted_left shifted_right on_common on_integers on_bits on_scaled on_texts combined to_integer to_offset in_unit
    divisor_in greatest_divisor and_operand evaluation constraint condition field_start extent_of then_ok framed
    from_inside constrained number_plan read_plan after_byte text_plan after_element elements_plan
    after_attempt plan least_width
not_is_int = plan_means (bits_of (0 ∷ [])) _ Big no_values 0

-- struct { int<8> a : a % 4 == -1; }
remainder_sign : Means (bits_of (251 ∷ []))
    (StructOf (Some (84 ∷ [])) false (FieldThen (Some (97 ∷ [])) None (IntegerOf (signed_type 8)) (Some (Between Equal
    (Between Remainder (Name 0 0) (Number (signed_type 32) 4)) (Before Minus (Number (signed_type 32) 1))))
    None None NoFields))
    Big no_values 0 (Ok (Mapped (StructLabel (Some (84 ∷ [])) ((Some (97 ∷ [])) ∷ [])) 0 8
    (MemberThen (Mapped (IntegerLabel (negsuc 4) (signed_type 8)) 0 8 NoMembers) NoMembers))) 9 2
unfolding bits_of binary number digits numeral_onto groups_from modulo with_sign converted is_signed_in brought prefixed
    shifted_left shifted_right on_common on_integers on_bits on_scaled on_texts combined to_integer to_offset in_unit
    divisor_in greatest_divisor and_operand evaluation constraint condition field_start extent_of then_ok framed
    from_inside constrained number_plan read_plan after_byte text_plan after_element elements_plan
    after_attempt plan least_width
remainder_sign = plan_means (bits_of (251 ∷ [])) _ Big no_values 0

-- struct { int<8> a : a / 2 == -2; }
division_toward_zero : Means (bits_of (251 ∷ []))
    (StructOf (Some (84 ∷ [])) false (FieldThen (Some (97 ∷ [])) None (IntegerOf (signed_type 8)) (Some
    (Between Equal (Between Divide (Name 0 0) (Number (signed_type 32) 2)) (Before Minus (Number (signed_type 32) 2))))
    None None NoFields))
    Big no_values 0 (Ok (Mapped (StructLabel (Some (84 ∷ [])) ((Some (97 ∷ [])) ∷ [])) 0 8
    (MemberThen (Mapped (IntegerLabel (negsuc 4) (signed_type 8)) 0 8 NoMembers) NoMembers))) 9 2
unfolding bits_of binary number digits numeral_onto groups_from modulo with_sign converted is_signed_in brought prefixed
    shifted_left shifted_right on_common on_integers on_bits on_scaled on_texts combined to_integer to_offset in_unit
    divisor_in greatest_divisor and_operand evaluation constraint condition field_start extent_of then_ok framed
    from_inside constrained number_plan read_plan after_byte text_plan after_element elements_plan
    after_attempt plan least_width
division_toward_zero = plan_means (bits_of (251 ∷ [])) _ Big no_values 0

-- struct { int<8> a : (a & 15B) == 11B; }
bits_of_signed : Means (bits_of (251 ∷ []))
    (StructOf (Some (84 ∷ [])) false (FieldThen (Some (97 ∷ [])) None (IntegerOf (signed_type 8))
    (Some (Between Equal (Bracket (Between BitAnd (Name 0 0) (Number (signed_type 8) 15))) (Number (signed_type 8) 11)))
    None None NoFields))
    Big no_values 0 (Ok (Mapped (StructLabel (Some (84 ∷ [])) ((Some (97 ∷ [])) ∷ [])) 0 8
    (MemberThen (Mapped (IntegerLabel (negsuc 4) (signed_type 8)) 0 8 NoMembers) NoMembers))) 9 2
unfolding bits_of binary number digits numeral_onto groups_from modulo with_sign converted is_signed_in brought prefixed
    shifted_left shifted_right on_common on_integers on_bits on_scaled on_texts combined to_integer to_offset in_unit
    divisor_in greatest_divisor and_operand evaluation constraint condition field_start extent_of then_ok framed
    from_inside constrained number_plan read_plan after_byte text_plan after_element elements_plan
    after_attempt plan least_width
bits_of_signed = plan_means (bits_of (251 ∷ [])) _ Big no_values 0

-- struct { byte a : (a | 1UB) == 3UB; }
bits_or : Means (bits_of (2 ∷ []))
    (StructOf (Some (84 ∷ [])) false (FieldThen (Some (97 ∷ [])) None (IntegerOf (unsigned_type 8)) (Some
    (Between Equal (Bracket (Between BitOr (Name 0 0) (Number (unsigned_type 8) 1))) (Number (unsigned_type 8) 3)))
    None None NoFields))
    Big no_values 0 (Ok (Mapped (StructLabel (Some (84 ∷ [])) ((Some (97 ∷ [])) ∷ [])) 0 8
    (MemberThen (Mapped (IntegerLabel (pos 2) (unsigned_type 8)) 0 8 NoMembers) NoMembers))) 9 2
unfolding bits_of binary number digits numeral_onto groups_from modulo with_sign converted is_signed_in brought prefixed
    shifted_left shifted_right on_common on_integers on_bits on_scaled on_texts combined to_integer to_offset in_unit
    divisor_in greatest_divisor and_operand evaluation constraint condition field_start extent_of then_ok framed
    from_inside constrained number_plan read_plan after_byte text_plan after_element elements_plan
    after_attempt plan least_width
bits_or = plan_means (bits_of (2 ∷ [])) _ Big no_values 0

-- struct { byte a : (a ^ 255UB) == 253UB; }
bits_xor : Means (bits_of (2 ∷ []))
    (StructOf (Some (84 ∷ [])) false (FieldThen (Some (97 ∷ [])) None (IntegerOf (unsigned_type 8)) (Some
    (Between Equal (Bracket (Between BitXor (Name 0 0) (Number (unsigned_type 8) 255))) (Number (unsigned_type 8) 253)))
    None None NoFields))
    Big no_values 0 (Ok (Mapped (StructLabel (Some (84 ∷ [])) ((Some (97 ∷ [])) ∷ [])) 0 8
    (MemberThen (Mapped (IntegerLabel (pos 2) (unsigned_type 8)) 0 8 NoMembers) NoMembers))) 9 2
unfolding bits_of binary number digits numeral_onto groups_from modulo with_sign converted is_signed_in brought prefixed
    shifted_left shifted_right on_common on_integers on_bits on_scaled on_texts combined to_integer to_offset in_unit
    divisor_in greatest_divisor and_operand evaluation constraint condition field_start extent_of then_ok framed
    from_inside constrained number_plan read_plan after_byte text_plan after_element elements_plan
    after_attempt plan least_width
bits_xor = plan_means (bits_of (2 ∷ [])) _ Big no_values 0

-- struct { byte a : a == 0 || 7 / a == 0; }
lazy_or : Means (bits_of (0 ∷ [])) (StructOf (Some (84 ∷ [])) false (FieldThen (Some (97 ∷ [])) None
    (IntegerOf (unsigned_type 8)) (Some (Between LogicalOr (Between Equal (Name 0 0) (Number (signed_type 32) 0))
    (Between Equal (Between Divide (Number (signed_type 32) 7) (Name 0 0)) (Number (signed_type 32) 0))))
    None None NoFields))
    Big no_values 0 (Ok (Mapped (StructLabel (Some (84 ∷ [])) ((Some (97 ∷ [])) ∷ [])) 0 8
    (MemberThen (Mapped (IntegerLabel (pos 0) (unsigned_type 8)) 0 8 NoMembers) NoMembers))) 7 2
unfolding bits_of binary number digits numeral_onto groups_from modulo with_sign converted is_signed_in brought prefixed
    shifted_left shifted_right on_common on_integers on_bits on_scaled on_texts combined to_integer to_offset in_unit
    divisor_in greatest_divisor and_operand evaluation constraint condition field_start extent_of then_ok framed
    from_inside constrained number_plan read_plan after_byte text_plan after_element elements_plan
    after_attempt plan least_width
lazy_or = plan_means (bits_of (0 ∷ [])) _ Big no_values 0

-- struct { byte a : (a as int<8>) == -1; }
conversion_to_integer : Means (bits_of (255 ∷ []))
    (StructOf (Some (84 ∷ [])) false (FieldThen (Some (97 ∷ [])) None (IntegerOf (unsigned_type 8))
    (Some (Between Equal (Bracket (ToInteger (signed_type 8) (Name 0 0))) (Before Minus (Number (signed_type 32) 1))))
    None None NoFields))
    Big no_values 0 (Ok (Mapped (StructLabel (Some (84 ∷ [])) ((Some (97 ∷ [])) ∷ [])) 0 8
    (MemberThen (Mapped (IntegerLabel (pos 255) (unsigned_type 8)) 0 8 NoMembers) NoMembers))) 9 2
unfolding bits_of binary number digits numeral_onto groups_from modulo with_sign converted is_signed_in brought prefixed
    shifted_left shifted_right on_common on_integers on_bits on_scaled on_texts combined to_integer to_offset in_unit
    divisor_in greatest_divisor and_operand evaluation constraint condition field_start extent_of then_ok framed
    from_inside constrained number_plan read_plan after_byte text_plan after_element elements_plan
    after_attempt plan least_width
conversion_to_integer = plan_means (bits_of (255 ∷ [])) _ Big no_values 0

-- struct { byte a : 3#B % 2#B == a#B; }
remainder_of_offsets : Means (bits_of (1 ∷ [])) (StructOf (Some (84 ∷ [])) false (FieldThen (Some (97 ∷ [])) None
    (IntegerOf (unsigned_type 8)) (Some (Between Equal (Between Remainder (InUnit 8 (Number (signed_type 32) 3))
    (InUnit 8 (Number (signed_type 32) 2))) (InUnit 8 (Name 0 0)))) None None NoFields)) Big no_values 0
    (Ok (Mapped (StructLabel (Some (84 ∷ [])) ((Some (97 ∷ [])) ∷ [])) 0 8
    (MemberThen (Mapped (IntegerLabel (pos 1) (unsigned_type 8)) 0 8 NoMembers) NoMembers))) 11 2
unfolding bits_of binary number digits numeral_onto groups_from modulo with_sign converted is_signed_in brought prefixed
    shifted_left shifted_right on_common on_integers on_bits on_scaled on_texts combined to_integer to_offset in_unit
    divisor_in greatest_divisor and_operand evaluation constraint condition field_start extent_of then_ok framed
    from_inside constrained number_plan read_plan after_byte text_plan after_element elements_plan
    after_attempt plan least_width
remainder_of_offsets = plan_means (bits_of (1 ∷ [])) _ Big no_values 0

-- struct { byte a : a * 3#4 == 24#b; }
scaled_offset : Means (bits_of (2 ∷ []))
    (StructOf (Some (84 ∷ [])) false (FieldThen (Some (97 ∷ [])) None (IntegerOf (unsigned_type 8)) (Some (Between Equal
    (Between Multiply (Name 0 0) (InUnit 4 (Number (signed_type 32) 3))) (InUnit 1 (Number (signed_type 32) 24))))
    None None NoFields))
    Big no_values 0 (Ok (Mapped (StructLabel (Some (84 ∷ [])) ((Some (97 ∷ [])) ∷ [])) 0 8
    (MemberThen (Mapped (IntegerLabel (pos 2) (unsigned_type 8)) 0 8 NoMembers) NoMembers))) 10 2
unfolding bits_of binary number digits numeral_onto groups_from modulo with_sign converted is_signed_in brought prefixed
    shifted_left shifted_right on_common on_integers on_bits on_scaled on_texts combined to_integer to_offset in_unit
    divisor_in greatest_divisor and_operand evaluation constraint condition field_start extent_of then_ok framed
    from_inside constrained number_plan read_plan after_byte text_plan after_element elements_plan
    after_attempt plan least_width
scaled_offset = plan_means (bits_of (2 ∷ [])) _ Big no_values 0

-- struct { byte a : 1#12 + 1#8 == 5#4 && a < 9; }
greatest_common_unit : Means (bits_of (2 ∷ [])) (StructOf (Some (84 ∷ [])) false
    (FieldThen (Some (97 ∷ [])) None (IntegerOf (unsigned_type 8)) (Some (Between LogicalAnd
    (Between Equal (Between Add (InUnit 12 (Number (signed_type 32) 1)) (InUnit 8 (Number (signed_type 32) 1)))
    (InUnit 4 (Number (signed_type 32) 5))) (Between Less (Name 0 0) (Number (signed_type 32) 9)))) None None NoFields))
    Big no_values 0 (Ok (Mapped (StructLabel (Some (84 ∷ [])) ((Some (97 ∷ [])) ∷ [])) 0 8
    (MemberThen (Mapped (IntegerLabel (pos 2) (unsigned_type 8)) 0 8 NoMembers) NoMembers))) 15 2
unfolding bits_of binary number digits numeral_onto groups_from modulo with_sign converted is_signed_in brought prefixed
    shifted_left shifted_right on_common on_integers on_bits on_scaled on_texts combined to_integer to_offset in_unit
    divisor_in greatest_divisor and_operand evaluation constraint condition field_start extent_of then_ok framed
    from_inside constrained number_plan read_plan after_byte text_plan after_element elements_plan
    after_attempt plan least_width
greatest_common_unit = plan_means (bits_of (2 ∷ [])) _ Big no_values 0

-- struct { byte a : 1#B / 0#B == 1; }
offset_division_by_zero : Means (bits_of (0 ∷ []))
    (StructOf (Some (84 ∷ [])) false (FieldThen (Some (97 ∷ [])) None (IntegerOf (unsigned_type 8))
    (Some (Between Equal (Between Divide (InUnit 8 (Number (signed_type 32) 1)) (InUnit 8 (Number (signed_type 32) 0)))
    (Number (signed_type 32) 1))) None None NoFields)) Big no_values 0 (Err (fault.Zero, 0)) 9 1
unfolding bits_of binary number digits numeral_onto groups_from modulo with_sign converted is_signed_in brought prefixed
    shifted_left shifted_right on_common on_integers on_bits on_scaled on_texts combined to_integer to_offset in_unit
    divisor_in greatest_divisor and_operand evaluation constraint condition field_start extent_of then_ok framed
    from_inside constrained number_plan read_plan after_byte text_plan after_element elements_plan
    after_attempt plan least_width
offset_division_by_zero = plan_means (bits_of (0 ∷ [])) _ Big no_values 0

-- struct { int<8> a : -a == 0; }
minimum_negated : Means (bits_of (128 ∷ []))
    (StructOf (Some (84 ∷ [])) false (FieldThen (Some (97 ∷ [])) None (IntegerOf (signed_type 8))
    (Some (Between Equal (Before Minus (Name 0 0)) (Number (signed_type 32) 0))) None None NoFields))
    Big no_values 0 (Err (fault.Overflow, 0)) 6 1
unfolding bits_of binary number digits numeral_onto groups_from modulo with_sign converted is_signed_in brought prefixed
    shifted_left shifted_right on_common on_integers on_bits on_scaled on_texts combined to_integer to_offset in_unit
    divisor_in greatest_divisor and_operand evaluation constraint condition field_start extent_of then_ok framed
    from_inside constrained number_plan read_plan after_byte text_plan after_element elements_plan
    after_attempt plan least_width
minimum_negated = plan_means (bits_of (128 ∷ [])) _ Big no_values 0

-- struct { byte[2] xs : xs[-1] == 0; }
negative_index : Means (bits_of (0 ∷ 0 ∷ [])) (StructOf (Some (84 ∷ [])) false (FieldThen (Some (120 ∷ 115 ∷ [])) None
    (ArrayOf (IntegerOf (unsigned_type 8)) (ByCount (Number (signed_type 32) 2)))
    (Some (Between Equal (Index (Name 0 0) (Before Minus (Number (signed_type 32) 1))) (Number (signed_type 32) 0)))
    None None NoFields))
    Big no_values 0 (Err (fault.Index, 0)) 13 3
unfolding bits_of binary number digits numeral_onto groups_from modulo with_sign converted is_signed_in brought prefixed
    shifted_left shifted_right on_common on_integers on_bits on_scaled on_texts combined to_integer to_offset in_unit
    divisor_in greatest_divisor and_operand evaluation constraint condition field_start extent_of then_ok framed
    from_inside constrained number_plan read_plan after_byte text_plan after_element elements_plan
    after_attempt plan least_width
negative_index = plan_means (bits_of (0 ∷ 0 ∷ [])) _ Big no_values 0

-- struct { byte n; byte x if 1 / n; }
zero_in_condition : Means (bits_of (0 ∷ 5 ∷ [])) (StructOf (Some (84 ∷ [])) false
    (FieldThen (Some (110 ∷ [])) None (IntegerOf (unsigned_type 8)) None None None (FieldThen (Some (120 ∷ [])) None
    (IntegerOf (unsigned_type 8)) None None (Some (Between Divide (Number (signed_type 32) 1) (Name 0 0))) NoFields)))
    Big no_values 0 (Err (fault.Zero, 0)) 7 1
unfolding bits_of binary number digits numeral_onto groups_from modulo with_sign converted is_signed_in brought prefixed
    shifted_left shifted_right on_common on_integers on_bits on_scaled on_texts combined to_integer to_offset in_unit
    divisor_in greatest_divisor and_operand evaluation constraint condition field_start extent_of then_ok framed
    from_inside constrained number_plan read_plan after_byte text_plan after_element elements_plan
    after_attempt plan least_width
zero_in_condition = plan_means (bits_of (0 ∷ 5 ∷ [])) _ Big no_values 0

-- struct { byte n; byte[1 / n] x; }
zero_in_bound : Means (bits_of (0 ∷ 5 ∷ [])) (StructOf (Some (84 ∷ [])) false
    (FieldThen (Some (110 ∷ [])) None (IntegerOf (unsigned_type 8)) None None None (FieldThen (Some (120 ∷ [])) None
    (ArrayOf (IntegerOf (unsigned_type 8)) (ByCount (Between Divide (Number (signed_type 32) 1) (Name 0 0)))) None None
    None NoFields)))
    Big no_values 0 (Err (fault.Zero, 8)) 8 1
unfolding bits_of binary number digits numeral_onto groups_from modulo with_sign converted is_signed_in brought prefixed
    shifted_left shifted_right on_common on_integers on_bits on_scaled on_texts combined to_integer to_offset in_unit
    divisor_in greatest_divisor and_operand evaluation constraint condition field_start extent_of then_ok framed
    from_inside constrained number_plan read_plan after_byte text_plan after_element elements_plan
    after_attempt plan least_width
zero_in_bound = plan_means (bits_of (0 ∷ 5 ∷ [])) _ Big no_values 0

-- struct { byte[0] e @ 1#B; }
struct_of_labels_end : Means (bits_of (0 ∷ 0 ∷ [])) (StructOf (Some (84 ∷ [])) false
    (FieldThen (Some (101 ∷ [])) None (ArrayOf (IntegerOf (unsigned_type 8)) (ByCount (Number (signed_type 32) 0))) None
    (Some (InUnit 8 (Number (signed_type 32) 1))) None NoFields))
    Big no_values 0 (Ok (Mapped (StructLabel (Some (84 ∷ [])) ((Some (101 ∷ [])) ∷ [])) 0 8
    (MemberThen (Mapped ArrayLabel 8 8 NoMembers) NoMembers))) 6 2
unfolding bits_of binary number digits numeral_onto groups_from modulo with_sign converted is_signed_in brought prefixed
    shifted_left shifted_right on_common on_integers on_bits on_scaled on_texts combined to_integer to_offset in_unit
    divisor_in greatest_divisor and_operand evaluation constraint condition field_start extent_of then_ok framed
    from_inside constrained number_plan read_plan after_byte text_plan after_element elements_plan
    after_attempt plan least_width
struct_of_labels_end = plan_means (bits_of (0 ∷ 0 ∷ [])) _ Big no_values 0

-- struct { byte a : -8#b / 1UB#B == 4294967295U; }
offset_quotient_wraps : Means (bits_of (0 ∷ []))
    (StructOf (Some (84 ∷ [])) false (FieldThen (Some (97 ∷ [])) None (IntegerOf (unsigned_type 8))
    (Some (Between Equal (Between Divide (Before Minus (InUnit 1 (Number (signed_type 32) 8)))
    (InUnit 8 (Number (unsigned_type 8) 1))) (Number (unsigned_type 32) 4294967295))) None None NoFields)) Big no_values
    0 (Ok (Mapped (StructLabel (Some (84 ∷ [])) ((Some (97 ∷ [])) ∷ [])) 0 8
    (MemberThen (Mapped (IntegerLabel (pos 0) (unsigned_type 8)) 0 8 NoMembers) NoMembers))) 11 2
unfolding bits_of binary number digits numeral_onto groups_from modulo with_sign converted is_signed_in brought prefixed
    shifted_left shifted_right on_common on_integers on_bits on_scaled on_texts combined to_integer to_offset in_unit
    divisor_in greatest_divisor and_operand evaluation constraint condition field_start extent_of then_ok framed
    from_inside constrained number_plan read_plan after_byte text_plan after_element elements_plan
    after_attempt plan least_width
offset_quotient_wraps = plan_means (bits_of (0 ∷ [])) _ Big no_values 0

-- struct { byte a : -8 / 8U == 536870911U; }
quotient_converts_first : Means (bits_of (0 ∷ []))
    (StructOf (Some (84 ∷ [])) false (FieldThen (Some (97 ∷ [])) None (IntegerOf (unsigned_type 8))
    (Some (Between Equal (Between Divide (Before Minus (Number (signed_type 32) 8)) (Number (unsigned_type 32) 8))
    (Number (unsigned_type 32) 536870911))) None None NoFields)) Big no_values 0
    (Ok (Mapped (StructLabel (Some (84 ∷ [])) ((Some (97 ∷ [])) ∷ [])) 0 8
    (MemberThen (Mapped (IntegerLabel (pos 0) (unsigned_type 8)) 0 8 NoMembers) NoMembers))) 9 2
unfolding bits_of binary number digits numeral_onto groups_from modulo with_sign converted is_signed_in brought prefixed
    shifted_left shifted_right on_common on_integers on_bits on_scaled on_texts combined to_integer to_offset in_unit
    divisor_in greatest_divisor and_operand evaluation constraint condition field_start extent_of then_ok framed
    from_inside constrained number_plan read_plan after_byte text_plan after_element elements_plan
    after_attempt plan least_width
quotient_converts_first = plan_means (bits_of (0 ∷ [])) _ Big no_values 0

-- struct { byte a : 1 << 31; }
shift_overflows : Means (bits_of (0 ∷ []))
    (StructOf (Some (84 ∷ [])) false (FieldThen (Some (97 ∷ [])) None (IntegerOf (unsigned_type 8))
    (Some (Between ShiftLeft (Number (signed_type 32) 1) (Number (signed_type 32) 31))) None None NoFields))
    Big no_values 0 (Err (fault.Overflow, 0)) 6 1
unfolding bits_of binary number digits numeral_onto groups_from modulo with_sign converted is_signed_in brought prefixed
    shifted_left shifted_right on_common on_integers on_bits on_scaled on_texts combined to_integer to_offset in_unit
    divisor_in greatest_divisor and_operand evaluation constraint condition field_start extent_of then_ok framed
    from_inside constrained number_plan read_plan after_byte text_plan after_element elements_plan
    after_attempt plan least_width
shift_overflows = plan_means (bits_of (0 ∷ [])) _ Big no_values 0

-- struct { union { byte x : x == 1; string c; } u; byte y : "ab" == u.c; }
text_not_taken : Means (bits_of (1 ∷ 2 ∷ []))
    (StructOf (Some (84 ∷ [])) false (FieldThen (Some (117 ∷ [])) None (UnionOf None (PartThen (Some (120 ∷ [])) None
    (IntegerOf (unsigned_type 8)) (Some (Between Equal (Name 0 0) (Number (signed_type 32) 1)))
    (PartThen (Some (99 ∷ [])) None StringOf None NoParts)))
    None None None (FieldThen (Some (121 ∷ [])) None (IntegerOf (unsigned_type 8))
    (Some (Between Equal (Text (97 ∷ 98 ∷ [])) (Select (Name 0 0) 1))) None None NoFields)))
    Big no_values 0 (Err (fault.Absent, 8)) 14 3
unfolding bits_of binary number digits numeral_onto groups_from modulo with_sign converted is_signed_in brought prefixed
    shifted_left shifted_right on_common on_integers on_bits on_scaled on_texts combined to_integer to_offset in_unit
    divisor_in greatest_divisor and_operand evaluation constraint condition field_start extent_of then_ok framed
    from_inside constrained number_plan read_plan after_byte text_plan after_element elements_plan
    after_attempt plan least_width
text_not_taken = plan_means (bits_of (1 ∷ 2 ∷ [])) _ Big no_values 0

-- struct { struct uint<16> { uint<4> a; uint<12> b : b'size == 12#b; } g; }
size_in_integral : Means (bits_of (18 ∷ 52 ∷ [])) (StructOf (Some (84 ∷ [])) false
    (FieldThen (Some (103 ∷ [])) None (IntegralOf None (unsigned_type 16) (PartThen (Some (97 ∷ [])) None
    (IntegerOf (unsigned_type 4)) None (PartThen (Some (98 ∷ [])) None (IntegerOf (unsigned_type 12))
    (Some (Between Equal (AttributeOf Size (Name 0 1)) (InUnit 1 (Number (signed_type 32) 12)))) NoParts)))
    None None None NoFields))
    Big no_values 0 (Ok (Mapped (StructLabel (Some (84 ∷ [])) ((Some (103 ∷ [])) ∷ [])) 0 16
    (MemberThen (Mapped (StructLabel None ((Some (97 ∷ [])) ∷ (Some (98 ∷ [])) ∷ [])) 0 16
    (MemberThen (Mapped (IntegerLabel (pos 1) (unsigned_type 4)) 0 4 NoMembers)
    (MemberThen (Mapped (IntegerLabel (pos 564) (unsigned_type 12)) 0 12 NoMembers) NoMembers))) NoMembers))) 12 4
unfolding bits_of binary number digits numeral_onto groups_from modulo with_sign converted is_signed_in brought prefixed
    shifted_left shifted_right on_common on_integers on_bits on_scaled on_texts combined to_integer to_offset in_unit
    divisor_in greatest_divisor and_operand evaluation constraint condition field_start extent_of then_ok framed
    from_inside constrained number_plan read_plan after_byte text_plan after_element elements_plan
    after_attempt plan least_width
size_in_integral = plan_means (bits_of (18 ∷ 52 ∷ [])) _ Big no_values 0

-- struct { byte a : 257 == a + 256; }
common_width : Means (bits_of (1 ∷ []))
    (StructOf (Some (84 ∷ [])) false (FieldThen (Some (97 ∷ [])) None (IntegerOf (unsigned_type 8))
    (Some (Between Equal (Number (signed_type 32) 257) (Between Add (Name 0 0) (Number (signed_type 32) 256)))) None
    None NoFields))
    Big no_values 0 (Ok (Mapped (StructLabel (Some (84 ∷ [])) ((Some (97 ∷ [])) ∷ [])) 0 8
    (MemberThen (Mapped (IntegerLabel (pos 1) (unsigned_type 8)) 0 8 NoMembers) NoMembers))) 8 2
unfolding bits_of binary number digits numeral_onto groups_from modulo with_sign converted is_signed_in brought prefixed
    shifted_left shifted_right on_common on_integers on_bits on_scaled on_texts combined to_integer to_offset in_unit
    divisor_in greatest_divisor and_operand evaluation constraint condition field_start extent_of then_ok framed
    from_inside constrained number_plan read_plan after_byte text_plan after_element elements_plan
    after_attempt plan least_width
common_width = plan_means (bits_of (1 ∷ [])) _ Big no_values 0

-- struct { uint<4> a : (-a as uint<8>) == 15UB; }
unsigned_wraps : Means (bits_of (31 ∷ []))
    (StructOf (Some (84 ∷ [])) false (FieldThen (Some (97 ∷ [])) None (IntegerOf (unsigned_type 4)) (Some
    (Between Equal (Bracket (ToInteger (unsigned_type 8) (Before Minus (Name 0 0)))) (Number (unsigned_type 8) 15)))
    None None NoFields))
    Big no_values 0 (Ok (Mapped (StructLabel (Some (84 ∷ [])) ((Some (97 ∷ [])) ∷ [])) 0 4
    (MemberThen (Mapped (IntegerLabel (pos 1) (unsigned_type 4)) 0 4 NoMembers) NoMembers))) 9 2
unfolding bits_of binary number digits numeral_onto groups_from modulo with_sign converted is_signed_in brought prefixed
    shifted_left shifted_right on_common on_integers on_bits on_scaled on_texts combined to_integer to_offset in_unit
    divisor_in greatest_divisor and_operand evaluation constraint condition field_start extent_of then_ok framed
    from_inside constrained number_plan read_plan after_byte text_plan after_element elements_plan
    after_attempt plan least_width
unsigned_wraps = plan_means (bits_of (31 ∷ [])) _ Big no_values 0

-- struct { int<8> a : a - 1B == -128; }
least_of_signed : Means (bits_of (129 ∷ []))
    (StructOf (Some (84 ∷ [])) false (FieldThen (Some (97 ∷ [])) None (IntegerOf (signed_type 8)) (Some (Between Equal
    (Between Subtract (Name 0 0) (Number (signed_type 8) 1)) (Before Minus (Number (signed_type 32) 128))))
    None None NoFields))
    Big no_values 0 (Ok (Mapped (StructLabel (Some (84 ∷ [])) ((Some (97 ∷ [])) ∷ [])) 0 8
    (MemberThen (Mapped (IntegerLabel (negsuc 126) (signed_type 8)) 0 8 NoMembers) NoMembers))) 9 2
unfolding bits_of binary number digits numeral_onto groups_from modulo with_sign converted is_signed_in brought prefixed
    shifted_left shifted_right on_common on_integers on_bits on_scaled on_texts combined to_integer to_offset in_unit
    divisor_in greatest_divisor and_operand evaluation constraint condition field_start extent_of then_ok framed
    from_inside constrained number_plan read_plan after_byte text_plan after_element elements_plan
    after_attempt plan least_width
least_of_signed = plan_means (bits_of (129 ∷ [])) _ Big no_values 0

-- struct { byte a : -!a == -1; }
not_widens : Means (bits_of (0 ∷ []))
    (StructOf (Some (84 ∷ [])) false (FieldThen (Some (97 ∷ [])) None (IntegerOf (unsigned_type 8))
    (Some (Between Equal (Before Minus (Before Not (Name 0 0))) (Before Minus (Number (signed_type 32) 1)))) None None
    NoFields))
    Big no_values 0 (Ok (Mapped (StructLabel (Some (84 ∷ [])) ((Some (97 ∷ [])) ∷ [])) 0 8
    (MemberThen (Mapped (IntegerLabel (pos 0) (unsigned_type 8)) 0 8 NoMembers) NoMembers))) 9 2
unfolding bits_of binary number digits numeral_onto groups_from modulo with_sign converted is_signed_in brought prefixed
    shifted_left shifted_right on_common on_integers on_bits on_scaled on_texts combined to_integer to_offset in_unit
    divisor_in greatest_divisor and_operand evaluation constraint condition field_start extent_of then_ok framed
    from_inside constrained number_plan read_plan after_byte text_plan after_element elements_plan
    after_attempt plan least_width
not_widens = plan_means (bits_of (0 ∷ [])) _ Big no_values 0

-- struct { byte a : a == 1 ? 0 : 1; }
choice_of_second : Means (bits_of (2 ∷ [])) (StructOf (Some (84 ∷ [])) false
    (FieldThen (Some (97 ∷ [])) None (IntegerOf (unsigned_type 8)) (Some (Choice (Some (signed_type 32))
    (Between Equal (Name 0 0) (Number (signed_type 32) 1)) (Number (signed_type 32) 0) (Number (signed_type 32) 1)))
    None None NoFields))
    Big no_values 0 (Ok (Mapped (StructLabel (Some (84 ∷ [])) ((Some (97 ∷ [])) ∷ [])) 0 8
    (MemberThen (Mapped (IntegerLabel (pos 2) (unsigned_type 8)) 0 8 NoMembers) NoMembers))) 8 2
unfolding bits_of binary number digits numeral_onto groups_from modulo with_sign converted is_signed_in brought prefixed
    shifted_left shifted_right on_common on_integers on_bits on_scaled on_texts combined to_integer to_offset in_unit
    divisor_in greatest_divisor and_operand evaluation constraint condition field_start extent_of then_ok framed
    from_inside constrained number_plan read_plan after_byte text_plan after_element elements_plan
    after_attempt plan least_width
choice_of_second = plan_means (bits_of (2 ∷ [])) _ Big no_values 0

-- struct { byte a : (17#b as offset<uint<8>,B>) == 2#B; }
offset_of_new_unit : Means (bits_of (0 ∷ []))
    (StructOf (Some (84 ∷ [])) false (FieldThen (Some (97 ∷ [])) None (IntegerOf (unsigned_type 8))
    (Some (Between Equal (Bracket (ToOffset (unsigned_type 8) 8 (InUnit 1 (Number (signed_type 32) 17))))
    (InUnit 8 (Number (signed_type 32) 2)))) None None NoFields)) Big no_values 0
    (Ok (Mapped (StructLabel (Some (84 ∷ [])) ((Some (97 ∷ [])) ∷ [])) 0 8
    (MemberThen (Mapped (IntegerLabel (pos 0) (unsigned_type 8)) 0 8 NoMembers) NoMembers))) 10 2
unfolding bits_of binary number digits numeral_onto groups_from modulo with_sign converted is_signed_in brought prefixed
    shifted_left shifted_right on_common on_integers on_bits on_scaled on_texts combined to_integer to_offset in_unit
    divisor_in greatest_divisor and_operand evaluation constraint condition field_start extent_of then_ok framed
    from_inside constrained number_plan read_plan after_byte text_plan after_element elements_plan
    after_attempt plan least_width
offset_of_new_unit = plan_means (bits_of (0 ∷ [])) _ Big no_values 0

-- struct { uint<16> a; } in little-endian
order_of_run : Means (bits_of (52 ∷ 18 ∷ [])) (StructOf (Some (84 ∷ [])) false
    (FieldThen (Some (97 ∷ [])) None (IntegerOf (unsigned_type 16)) None None None NoFields))
    Little no_values 0 (Ok (Mapped (StructLabel (Some (84 ∷ [])) ((Some (97 ∷ [])) ∷ [])) 0 16
    (MemberThen (Mapped (IntegerLabel (pos 4660) (unsigned_type 16)) 0 16 NoMembers) NoMembers))) 3 2
unfolding bits_of binary number digits numeral_onto groups_from modulo with_sign converted is_signed_in brought prefixed
    shifted_left shifted_right on_common on_integers on_bits on_scaled on_texts combined to_integer to_offset in_unit
    divisor_in greatest_divisor and_operand evaluation constraint condition field_start extent_of then_ok framed
    from_inside constrained number_plan read_plan after_byte text_plan after_element elements_plan
    after_attempt plan least_width
order_of_run = plan_means (bits_of (52 ∷ 18 ∷ [])) _ Little no_values 0

-- struct { big uint<16> a; } in little-endian
big_in_little_run : Means (bits_of (52 ∷ 18 ∷ [])) (StructOf (Some (84 ∷ [])) false
    (FieldThen (Some (97 ∷ [])) (Some prefix.Big) (IntegerOf (unsigned_type 16)) None None None NoFields))
    Little no_values 0 (Ok (Mapped (StructLabel (Some (84 ∷ [])) ((Some (97 ∷ [])) ∷ [])) 0 16
    (MemberThen (Mapped (IntegerLabel (pos 13330) (unsigned_type 16)) 0 16 NoMembers) NoMembers))) 3 2
unfolding bits_of binary number digits numeral_onto groups_from modulo with_sign converted is_signed_in brought prefixed
    shifted_left shifted_right on_common on_integers on_bits on_scaled on_texts combined to_integer to_offset in_unit
    divisor_in greatest_divisor and_operand evaluation constraint condition field_start extent_of then_ok framed
    from_inside constrained number_plan read_plan after_byte text_plan after_element elements_plan
    after_attempt plan least_width
big_in_little_run = plan_means (bits_of (52 ∷ 18 ∷ [])) _ Little no_values 0

-- struct { byte a : 100B#B + 0B#B == 800#b; }
unit_of_sum : Means (bits_of (0 ∷ []))
    (StructOf (Some (84 ∷ [])) false (FieldThen (Some (97 ∷ [])) None (IntegerOf (unsigned_type 8))
    (Some (Between Equal (Between Add (InUnit 8 (Number (signed_type 8) 100)) (InUnit 8 (Number (signed_type 8) 0)))
    (InUnit 1 (Number (signed_type 32) 800)))) None None NoFields)) Big no_values 0
    (Ok (Mapped (StructLabel (Some (84 ∷ [])) ((Some (97 ∷ [])) ∷ [])) 0 8
    (MemberThen (Mapped (IntegerLabel (pos 0) (unsigned_type 8)) 0 8 NoMembers) NoMembers))) 11 2
unfolding bits_of binary number digits numeral_onto groups_from modulo with_sign converted is_signed_in brought prefixed
    shifted_left shifted_right on_common on_integers on_bits on_scaled on_texts combined to_integer to_offset in_unit
    divisor_in greatest_divisor and_operand evaluation constraint condition field_start extent_of then_ok framed
    from_inside constrained number_plan read_plan after_byte text_plan after_element elements_plan
    after_attempt plan least_width
unit_of_sum = plan_means (bits_of (0 ∷ [])) _ Big no_values 0

-- struct { byte a : a <= 5 && !(a <= 4); }
at_most : Means (bits_of (5 ∷ [])) (StructOf (Some (84 ∷ [])) false (FieldThen (Some (97 ∷ [])) None
    (IntegerOf (unsigned_type 8)) (Some (Between LogicalAnd (Between LessEqual (Name 0 0) (Number (signed_type 32) 5))
    (Before Not (Bracket (Between LessEqual (Name 0 0) (Number (signed_type 32) 4)))))) None None NoFields)) Big
    no_values 0 (Ok (Mapped (StructLabel (Some (84 ∷ [])) ((Some (97 ∷ [])) ∷ [])) 0 8
    (MemberThen (Mapped (IntegerLabel (pos 5) (unsigned_type 8)) 0 8 NoMembers) NoMembers))) 12 2
unfolding bits_of binary number digits numeral_onto groups_from modulo with_sign converted is_signed_in brought prefixed
    shifted_left shifted_right on_common on_integers on_bits on_scaled on_texts combined to_integer to_offset in_unit
    divisor_in greatest_divisor and_operand evaluation constraint condition field_start extent_of then_ok framed
    from_inside constrained number_plan read_plan after_byte text_plan after_element elements_plan
    after_attempt plan least_width
at_most = plan_means (bits_of (5 ∷ [])) _ Big no_values 0

-- struct { byte a : a >= 5 && !(a >= 6); }
at_least : Means (bits_of (5 ∷ []))
    (StructOf (Some (84 ∷ [])) false (FieldThen (Some (97 ∷ [])) None (IntegerOf (unsigned_type 8))
    (Some (Between LogicalAnd (Between GreaterEqual (Name 0 0) (Number (signed_type 32) 5))
    (Before Not (Bracket (Between GreaterEqual (Name 0 0) (Number (signed_type 32) 6)))))) None None NoFields)) Big
    no_values 0 (Ok (Mapped (StructLabel (Some (84 ∷ [])) ((Some (97 ∷ [])) ∷ [])) 0 8
    (MemberThen (Mapped (IntegerLabel (pos 5) (unsigned_type 8)) 0 8 NoMembers) NoMembers))) 12 2
unfolding bits_of binary number digits numeral_onto groups_from modulo with_sign converted is_signed_in brought prefixed
    shifted_left shifted_right on_common on_integers on_bits on_scaled on_texts combined to_integer to_offset in_unit
    divisor_in greatest_divisor and_operand evaluation constraint condition field_start extent_of then_ok framed
    from_inside constrained number_plan read_plan after_byte text_plan after_element elements_plan
    after_attempt plan least_width
at_least = plan_means (bits_of (5 ∷ [])) _ Big no_values 0

-- struct { byte a : a > 4 && !(a > 5); }
greater : Means (bits_of (5 ∷ [])) (StructOf (Some (84 ∷ [])) false (FieldThen (Some (97 ∷ [])) None
    (IntegerOf (unsigned_type 8)) (Some (Between LogicalAnd (Between Greater (Name 0 0) (Number (signed_type 32) 4))
    (Before Not (Bracket (Between Greater (Name 0 0) (Number (signed_type 32) 5)))))) None None NoFields)) Big no_values
    0 (Ok (Mapped (StructLabel (Some (84 ∷ [])) ((Some (97 ∷ [])) ∷ [])) 0 8
    (MemberThen (Mapped (IntegerLabel (pos 5) (unsigned_type 8)) 0 8 NoMembers) NoMembers))) 12 2
unfolding bits_of binary number digits numeral_onto groups_from modulo with_sign converted is_signed_in brought prefixed
    shifted_left shifted_right on_common on_integers on_bits on_scaled on_texts combined to_integer to_offset in_unit
    divisor_in greatest_divisor and_operand evaluation constraint condition field_start extent_of then_ok framed
    from_inside constrained number_plan read_plan after_byte text_plan after_element elements_plan
    after_attempt plan least_width
greater = plan_means (bits_of (5 ∷ [])) _ Big no_values 0

-- struct { int<8> a : +a == -5; }
plus : Means (bits_of (251 ∷ []))
    (StructOf (Some (84 ∷ [])) false (FieldThen (Some (97 ∷ [])) None (IntegerOf (signed_type 8))
    (Some (Between Equal (Before Plus (Name 0 0)) (Before Minus (Number (signed_type 32) 5)))) None None NoFields))
    Big no_values 0 (Ok (Mapped (StructLabel (Some (84 ∷ [])) ((Some (97 ∷ [])) ∷ [])) 0 8
    (MemberThen (Mapped (IntegerLabel (negsuc 4) (signed_type 8)) 0 8 NoMembers) NoMembers))) 8 2
unfolding bits_of binary number digits numeral_onto groups_from modulo with_sign converted is_signed_in brought prefixed
    shifted_left shifted_right on_common on_integers on_bits on_scaled on_texts combined to_integer to_offset in_unit
    divisor_in greatest_divisor and_operand evaluation constraint condition field_start extent_of then_ok framed
    from_inside constrained number_plan read_plan after_byte text_plan after_element elements_plan
    after_attempt plan least_width
plus = plan_means (bits_of (251 ∷ [])) _ Big no_values 0

-- struct { byte a : a * 60UB == 44; }
product_wraps : Means (bits_of (5 ∷ []))
    (StructOf (Some (84 ∷ [])) false (FieldThen (Some (97 ∷ [])) None (IntegerOf (unsigned_type 8))
    (Some (Between Equal (Between Multiply (Name 0 0) (Number (unsigned_type 8) 60)) (Number (signed_type 32) 44))) None
    None NoFields))
    Big no_values 0 (Ok (Mapped (StructLabel (Some (84 ∷ [])) ((Some (97 ∷ [])) ∷ [])) 0 8
    (MemberThen (Mapped (IntegerLabel (pos 5) (unsigned_type 8)) 0 8 NoMembers) NoMembers))) 8 2
unfolding bits_of binary number digits numeral_onto groups_from modulo with_sign converted is_signed_in brought prefixed
    shifted_left shifted_right on_common on_integers on_bits on_scaled on_texts combined to_integer to_offset in_unit
    divisor_in greatest_divisor and_operand evaluation constraint condition field_start extent_of then_ok framed
    from_inside constrained number_plan read_plan after_byte text_plan after_element elements_plan
    after_attempt plan least_width
product_wraps = plan_means (bits_of (5 ∷ [])) _ Big no_values 0

-- struct { byte a : 3#4 * a == 24#b; }
offset_times_number : Means (bits_of (2 ∷ []))
    (StructOf (Some (84 ∷ [])) false (FieldThen (Some (97 ∷ [])) None (IntegerOf (unsigned_type 8)) (Some (Between Equal
    (Between Multiply (InUnit 4 (Number (signed_type 32) 3)) (Name 0 0)) (InUnit 1 (Number (signed_type 32) 24))))
    None None NoFields))
    Big no_values 0 (Ok (Mapped (StructLabel (Some (84 ∷ [])) ((Some (97 ∷ [])) ∷ [])) 0 8
    (MemberThen (Mapped (IntegerLabel (pos 2) (unsigned_type 8)) 0 8 NoMembers) NoMembers))) 10 2
unfolding bits_of binary number digits numeral_onto groups_from modulo with_sign converted is_signed_in brought prefixed
    shifted_left shifted_right on_common on_integers on_bits on_scaled on_texts combined to_integer to_offset in_unit
    divisor_in greatest_divisor and_operand evaluation constraint condition field_start extent_of then_ok framed
    from_inside constrained number_plan read_plan after_byte text_plan after_element elements_plan
    after_attempt plan least_width
offset_times_number = plan_means (bits_of (2 ∷ [])) _ Big no_values 0

-- struct { byte a : 3#B - 4#b == 20#b; }
difference_of_offsets : Means (bits_of (0 ∷ [])) (StructOf (Some (84 ∷ [])) false (FieldThen (Some (97 ∷ [])) None
    (IntegerOf (unsigned_type 8)) (Some (Between Equal (Between Subtract (InUnit 8 (Number (signed_type 32) 3))
    (InUnit 1 (Number (signed_type 32) 4))) (InUnit 1 (Number (signed_type 32) 20)))) None None NoFields)) Big no_values
    0 (Ok (Mapped (StructLabel (Some (84 ∷ [])) ((Some (97 ∷ [])) ∷ [])) 0 8
    (MemberThen (Mapped (IntegerLabel (pos 0) (unsigned_type 8)) 0 8 NoMembers) NoMembers))) 11 2
unfolding bits_of binary number digits numeral_onto groups_from modulo with_sign converted is_signed_in brought prefixed
    shifted_left shifted_right on_common on_integers on_bits on_scaled on_texts combined to_integer to_offset in_unit
    divisor_in greatest_divisor and_operand evaluation constraint condition field_start extent_of then_ok framed
    from_inside constrained number_plan read_plan after_byte text_plan after_element elements_plan
    after_attempt plan least_width
difference_of_offsets = plan_means (bits_of (0 ∷ [])) _ Big no_values 0

-- struct { byte a : 1#B < 9#b && !(1#B < 8#b); }
less_offset : Means (bits_of (0 ∷ []))
    (StructOf (Some (84 ∷ [])) false (FieldThen (Some (97 ∷ [])) None (IntegerOf (unsigned_type 8)) (Some (Between
    LogicalAnd (Between Less (InUnit 8 (Number (signed_type 32) 1)) (InUnit 1 (Number (signed_type 32) 9))) (Before Not
    (Bracket (Between Less (InUnit 8 (Number (signed_type 32) 1)) (InUnit 1 (Number (signed_type 32) 8)))))))
    None None NoFields))
    Big no_values 0 (Ok (Mapped (StructLabel (Some (84 ∷ [])) ((Some (97 ∷ [])) ∷ [])) 0 8
    (MemberThen (Mapped (IntegerLabel (pos 0) (unsigned_type 8)) 0 8 NoMembers) NoMembers))) 16 2
unfolding bits_of binary number digits numeral_onto groups_from modulo with_sign converted is_signed_in brought prefixed
    shifted_left shifted_right on_common on_integers on_bits on_scaled on_texts combined to_integer to_offset in_unit
    divisor_in greatest_divisor and_operand evaluation constraint condition field_start extent_of then_ok framed
    from_inside constrained number_plan read_plan after_byte text_plan after_element elements_plan
    after_attempt plan least_width
less_offset = plan_means (bits_of (0 ∷ [])) _ Big no_values 0

-- struct { byte a : 8#b <= 1#B && !(9#b <= 1#B); }
offset_at_most : Means (bits_of (0 ∷ [])) (StructOf (Some (84 ∷ [])) false
    (FieldThen (Some (97 ∷ [])) None (IntegerOf (unsigned_type 8)) (Some (Between LogicalAnd
    (Between LessEqual (InUnit 1 (Number (signed_type 32) 8)) (InUnit 8 (Number (signed_type 32) 1))) (Before Not
    (Bracket (Between LessEqual (InUnit 1 (Number (signed_type 32) 9)) (InUnit 8 (Number (signed_type 32) 1)))))))
    None None NoFields))
    Big no_values 0 (Ok (Mapped (StructLabel (Some (84 ∷ [])) ((Some (97 ∷ [])) ∷ [])) 0 8
    (MemberThen (Mapped (IntegerLabel (pos 0) (unsigned_type 8)) 0 8 NoMembers) NoMembers))) 16 2
unfolding bits_of binary number digits numeral_onto groups_from modulo with_sign converted is_signed_in brought prefixed
    shifted_left shifted_right on_common on_integers on_bits on_scaled on_texts combined to_integer to_offset in_unit
    divisor_in greatest_divisor and_operand evaluation constraint condition field_start extent_of then_ok framed
    from_inside constrained number_plan read_plan after_byte text_plan after_element elements_plan
    after_attempt plan least_width
offset_at_most = plan_means (bits_of (0 ∷ [])) _ Big no_values 0

-- struct { byte a : 9#b > 1#B && !(8#b > 1#B); }
greater_offset : Means (bits_of (0 ∷ [])) (StructOf (Some (84 ∷ [])) false
    (FieldThen (Some (97 ∷ [])) None (IntegerOf (unsigned_type 8)) (Some (Between LogicalAnd
    (Between Greater (InUnit 1 (Number (signed_type 32) 9)) (InUnit 8 (Number (signed_type 32) 1))) (Before Not
    (Bracket (Between Greater (InUnit 1 (Number (signed_type 32) 8)) (InUnit 8 (Number (signed_type 32) 1)))))))
    None None NoFields))
    Big no_values 0 (Ok (Mapped (StructLabel (Some (84 ∷ [])) ((Some (97 ∷ [])) ∷ [])) 0 8
    (MemberThen (Mapped (IntegerLabel (pos 0) (unsigned_type 8)) 0 8 NoMembers) NoMembers))) 16 2
unfolding bits_of binary number digits numeral_onto groups_from modulo with_sign converted is_signed_in brought prefixed
    shifted_left shifted_right on_common on_integers on_bits on_scaled on_texts combined to_integer to_offset in_unit
    divisor_in greatest_divisor and_operand evaluation constraint condition field_start extent_of then_ok framed
    from_inside constrained number_plan read_plan after_byte text_plan after_element elements_plan
    after_attempt plan least_width
greater_offset = plan_means (bits_of (0 ∷ [])) _ Big no_values 0

-- struct { byte a : 1#B >= 8#b && !(1#B >= 9#b); }
offset_at_least : Means (bits_of (0 ∷ [])) (StructOf (Some (84 ∷ [])) false
    (FieldThen (Some (97 ∷ [])) None (IntegerOf (unsigned_type 8)) (Some (Between LogicalAnd
    (Between GreaterEqual (InUnit 8 (Number (signed_type 32) 1)) (InUnit 1 (Number (signed_type 32) 8))) (Before Not
    (Bracket (Between GreaterEqual (InUnit 8 (Number (signed_type 32) 1)) (InUnit 1 (Number (signed_type 32) 9)))))))
    None None NoFields))
    Big no_values 0 (Ok (Mapped (StructLabel (Some (84 ∷ [])) ((Some (97 ∷ [])) ∷ [])) 0 8
    (MemberThen (Mapped (IntegerLabel (pos 0) (unsigned_type 8)) 0 8 NoMembers) NoMembers))) 16 2
unfolding bits_of binary number digits numeral_onto groups_from modulo with_sign converted is_signed_in brought prefixed
    shifted_left shifted_right on_common on_integers on_bits on_scaled on_texts combined to_integer to_offset in_unit
    divisor_in greatest_divisor and_operand evaluation constraint condition field_start extent_of then_ok framed
    from_inside constrained number_plan read_plan after_byte text_plan after_element elements_plan
    after_attempt plan least_width
offset_at_least = plan_means (bits_of (0 ∷ [])) _ Big no_values 0

-- struct { byte a : 1#B != 9#b && !(1#B != 8#b); }
unequal_offsets : Means (bits_of (0 ∷ [])) (StructOf (Some (84 ∷ [])) false
    (FieldThen (Some (97 ∷ [])) None (IntegerOf (unsigned_type 8)) (Some (Between LogicalAnd
    (Between NotEqual (InUnit 8 (Number (signed_type 32) 1)) (InUnit 1 (Number (signed_type 32) 9))) (Before Not
    (Bracket (Between NotEqual (InUnit 8 (Number (signed_type 32) 1)) (InUnit 1 (Number (signed_type 32) 8)))))))
    None None NoFields))
    Big no_values 0 (Ok (Mapped (StructLabel (Some (84 ∷ [])) ((Some (97 ∷ [])) ∷ [])) 0 8
    (MemberThen (Mapped (IntegerLabel (pos 0) (unsigned_type 8)) 0 8 NoMembers) NoMembers))) 16 2
unfolding bits_of binary number digits numeral_onto groups_from modulo with_sign converted is_signed_in brought prefixed
    shifted_left shifted_right on_common on_integers on_bits on_scaled on_texts combined to_integer to_offset in_unit
    divisor_in greatest_divisor and_operand evaluation constraint condition field_start extent_of then_ok framed
    from_inside constrained number_plan read_plan after_byte text_plan after_element elements_plan
    after_attempt plan least_width
unequal_offsets = plan_means (bits_of (0 ∷ [])) _ Big no_values 0

-- struct { byte a : 1#B % 0#B == 0#b; }
offset_remainder_by_zero : Means (bits_of (0 ∷ []))
    (StructOf (Some (84 ∷ [])) false (FieldThen (Some (97 ∷ [])) None (IntegerOf (unsigned_type 8)) (Some
    (Between Equal (Between Remainder (InUnit 8 (Number (signed_type 32) 1)) (InUnit 8 (Number (signed_type 32) 0)))
    (InUnit 1 (Number (signed_type 32) 0)))) None None NoFields)) Big no_values 0 (Err (fault.Zero, 0)) 9 1
unfolding bits_of binary number digits numeral_onto groups_from modulo with_sign converted is_signed_in brought prefixed
    shifted_left shifted_right on_common on_integers on_bits on_scaled on_texts combined to_integer to_offset in_unit
    divisor_in greatest_divisor and_operand evaluation constraint condition field_start extent_of then_ok framed
    from_inside constrained number_plan read_plan after_byte text_plan after_element elements_plan
    after_attempt plan least_width
offset_remainder_by_zero = plan_means (bits_of (0 ∷ [])) _ Big no_values 0

-- struct { string s : s != "hi"; }
unequal_strings : Means (bits_of (104 ∷ 111 ∷ 0 ∷ [])) (StructOf (Some (84 ∷ [])) false (FieldThen (Some (115 ∷ []))
    None StringOf (Some (Between NotEqual (Name 0 0) (Text (104 ∷ 105 ∷ [])))) None None NoFields))
    Big no_values 0 (Ok (Mapped (StructLabel (Some (84 ∷ [])) ((Some (115 ∷ [])) ∷ [])) 0 24
    (MemberThen (Mapped (TextLabel (104 ∷ 111 ∷ [])) 0 24 NoMembers) NoMembers))) 11 4
unfolding bits_of binary number digits numeral_onto groups_from modulo with_sign converted is_signed_in brought prefixed
    shifted_left shifted_right on_common on_integers on_bits on_scaled on_texts combined to_integer to_offset in_unit
    divisor_in greatest_divisor and_operand evaluation constraint condition field_start extent_of then_ok framed
    from_inside constrained number_plan read_plan after_byte text_plan after_element elements_plan
    after_attempt plan least_width
unequal_strings = plan_means (bits_of (104 ∷ 111 ∷ 0 ∷ [])) _ Big no_values 0

equal_strings : Means (bits_of (104 ∷ 105 ∷ 0 ∷ [])) (StructOf (Some (84 ∷ [])) false (FieldThen (Some (115 ∷ [])) None
    StringOf (Some (Between NotEqual (Name 0 0) (Text (104 ∷ 105 ∷ [])))) None None NoFields))
    Big no_values 0 (Err (fault.Constraint, 0)) 11 3
unfolding bits_of binary number digits numeral_onto groups_from modulo with_sign converted is_signed_in brought prefixed
    shifted_left shifted_right on_common on_integers on_bits on_scaled on_texts combined to_integer to_offset in_unit
    divisor_in greatest_divisor and_operand evaluation constraint condition field_start extent_of then_ok framed
    from_inside constrained number_plan read_plan after_byte text_plan after_element elements_plan
    after_attempt plan least_width
equal_strings = plan_means (bits_of (104 ∷ 105 ∷ 0 ∷ [])) _ Big no_values 0

-- struct { byte a : (a == 1 ? 1#B : 2#B) == 16#b; }
choice_of_offsets : Means (bits_of (2 ∷ []))
    (StructOf (Some (84 ∷ [])) false (FieldThen (Some (97 ∷ [])) None (IntegerOf (unsigned_type 8)) (Some (Between Equal
    (Bracket (Choice None (Between Equal (Name 0 0) (Number (signed_type 32) 1)) (InUnit 8 (Number (signed_type 32) 1))
    (InUnit 8 (Number (signed_type 32) 2)))) (InUnit 1 (Number (signed_type 32) 16)))) None None NoFields)) Big
    no_values 0 (Ok (Mapped (StructLabel (Some (84 ∷ [])) ((Some (97 ∷ [])) ∷ [])) 0 8
    (MemberThen (Mapped (IntegerLabel (pos 2) (unsigned_type 8)) 0 8 NoMembers) NoMembers))) 13 2
unfolding bits_of binary number digits numeral_onto groups_from modulo with_sign converted is_signed_in brought prefixed
    shifted_left shifted_right on_common on_integers on_bits on_scaled on_texts combined to_integer to_offset in_unit
    divisor_in greatest_divisor and_operand evaluation constraint condition field_start extent_of then_ok framed
    from_inside constrained number_plan read_plan after_byte text_plan after_element elements_plan
    after_attempt plan least_width
choice_of_offsets = plan_means (bits_of (2 ∷ [])) _ Big no_values 0

-- struct { byte a : 1 << -1; }
negative_count_left : Means (bits_of (0 ∷ []))
    (StructOf (Some (84 ∷ [])) false (FieldThen (Some (97 ∷ [])) None (IntegerOf (unsigned_type 8))
    (Some (Between ShiftLeft (Number (signed_type 32) 1) (Before Minus (Number (signed_type 32) 1)))) None None
    NoFields))
    Big no_values 0 (Err (fault.Index, 0)) 7 1
unfolding bits_of binary number digits numeral_onto groups_from modulo with_sign converted is_signed_in brought prefixed
    shifted_left shifted_right on_common on_integers on_bits on_scaled on_texts combined to_integer to_offset in_unit
    divisor_in greatest_divisor and_operand evaluation constraint condition field_start extent_of then_ok framed
    from_inside constrained number_plan read_plan after_byte text_plan after_element elements_plan
    after_attempt plan least_width
negative_count_left = plan_means (bits_of (0 ∷ [])) _ Big no_values 0

-- struct { byte a : 1 >> -1; }
negative_count_right : Means (bits_of (0 ∷ []))
    (StructOf (Some (84 ∷ [])) false (FieldThen (Some (97 ∷ [])) None (IntegerOf (unsigned_type 8))
    (Some (Between ShiftRight (Number (signed_type 32) 1) (Before Minus (Number (signed_type 32) 1)))) None None
    NoFields))
    Big no_values 0 (Err (fault.Index, 0)) 7 1
unfolding bits_of binary number digits numeral_onto groups_from modulo with_sign converted is_signed_in brought prefixed
    shifted_left shifted_right on_common on_integers on_bits on_scaled on_texts combined to_integer to_offset in_unit
    divisor_in greatest_divisor and_operand evaluation constraint condition field_start extent_of then_ok framed
    from_inside constrained number_plan read_plan after_byte text_plan after_element elements_plan
    after_attempt plan least_width
negative_count_right = plan_means (bits_of (0 ∷ [])) _ Big no_values 0

-- struct { byte n; byte x @ (1 / n)#B; } at 8#b
zero_in_label : Means (bits_of (9 ∷ 0 ∷ 5 ∷ [])) (StructOf (Some (84 ∷ [])) false (FieldThen (Some (110 ∷ [])) None
    (IntegerOf (unsigned_type 8)) None None None (FieldThen (Some (120 ∷ [])) None (IntegerOf (unsigned_type 8)) None
    (Some (InUnit 8 (Bracket (Between Divide (Number (signed_type 32) 1) (Name 0 0))))) None NoFields)))
    Big no_values 8 (Err (fault.Zero, 8)) 9 1
unfolding bits_of binary number digits numeral_onto groups_from modulo with_sign converted is_signed_in brought prefixed
    shifted_left shifted_right on_common on_integers on_bits on_scaled on_texts combined to_integer to_offset in_unit
    divisor_in greatest_divisor and_operand evaluation constraint condition field_start extent_of then_ok framed
    from_inside constrained number_plan read_plan after_byte text_plan after_element elements_plan
    after_attempt plan least_width
zero_in_label = plan_means (bits_of (9 ∷ 0 ∷ 5 ∷ [])) _ Big no_values 8

-- union { uint<16> a : a == 4660; little uint<16> b : b == 4660; }
little_alternative : Means (bits_of (52 ∷ 18 ∷ []))
    (UnionOf None (PartThen (Some (97 ∷ [])) None (IntegerOf (unsigned_type 16))
    (Some (Between Equal (Name 0 0) (Number (signed_type 32) 4660))) (PartThen (Some (98 ∷ [])) (Some prefix.Little)
    (IntegerOf (unsigned_type 16)) (Some (Between Equal (Name 0 0) (Number (signed_type 32) 4660))) NoParts)))
    Big no_values 0 (Ok (Mapped (UnionLabel None 1 (Some (98 ∷ []))) 0 16
    (MemberThen (Mapped (IntegerLabel (pos 4660) (unsigned_type 16)) 0 16 NoMembers) NoMembers))) 11 3
unfolding bits_of binary number digits numeral_onto groups_from modulo with_sign converted is_signed_in brought prefixed
    shifted_left shifted_right on_common on_integers on_bits on_scaled on_texts combined to_integer to_offset in_unit
    divisor_in greatest_divisor and_operand evaluation constraint condition field_start extent_of then_ok framed
    from_inside constrained number_plan read_plan after_byte text_plan after_element elements_plan
    after_attempt plan least_width
little_alternative = plan_means (bits_of (52 ∷ 18 ∷ [])) _ Big no_values 0

-- pinned struct { byte f; uint<16> w if f == 1; }
pinned_present : Means (bits_of (1 ∷ 2 ∷ [])) (StructOf (Some (84 ∷ [])) true
    (FieldThen (Some (102 ∷ [])) None (IntegerOf (unsigned_type 8)) None None None (FieldThen (Some (119 ∷ [])) None
    (IntegerOf (unsigned_type 16)) None None (Some (Between Equal (Name 0 0) (Number (signed_type 32) 1))) NoFields)))
    Big no_values 0 (Ok (Mapped (StructLabel (Some (84 ∷ [])) ((Some (102 ∷ [])) ∷ (Some (119 ∷ [])) ∷ [])) 0 16
    (MemberThen (Mapped (IntegerLabel (pos 1) (unsigned_type 8)) 0 8 NoMembers)
    (MemberThen (Mapped (IntegerLabel (pos 258) (unsigned_type 16)) 0 16 NoMembers) NoMembers))))
    8 3
unfolding bits_of binary number digits numeral_onto groups_from modulo with_sign converted is_signed_in brought prefixed
    shifted_left shifted_right on_common on_integers on_bits on_scaled on_texts combined to_integer to_offset in_unit
    divisor_in greatest_divisor and_operand evaluation constraint condition field_start extent_of then_ok framed
    from_inside constrained number_plan read_plan after_byte text_plan after_element elements_plan
    after_attempt plan least_width
pinned_present = plan_means (bits_of (1 ∷ 2 ∷ [])) _ Big no_values 0

pinned_absent : Means (bits_of (0 ∷ 2 ∷ [])) (StructOf (Some (84 ∷ [])) true
    (FieldThen (Some (102 ∷ [])) None (IntegerOf (unsigned_type 8)) None None None (FieldThen (Some (119 ∷ [])) None
    (IntegerOf (unsigned_type 16)) None None (Some (Between Equal (Name 0 0) (Number (signed_type 32) 1))) NoFields)))
    Big no_values 0 (Ok (Mapped (StructLabel (Some (84 ∷ [])) ((Some (102 ∷ [])) ∷ (Some (119 ∷ [])) ∷ [])) 0 8
    (MemberThen (Mapped (IntegerLabel (pos 0) (unsigned_type 8)) 0 8 NoMembers) (AbsentThen NoMembers)))) 7 2
unfolding bits_of binary number digits numeral_onto groups_from modulo with_sign converted is_signed_in brought prefixed
    shifted_left shifted_right on_common on_integers on_bits on_scaled on_texts combined to_integer to_offset in_unit
    divisor_in greatest_divisor and_operand evaluation constraint condition field_start extent_of then_ok framed
    from_inside constrained number_plan read_plan after_byte text_plan after_element elements_plan
    after_attempt plan least_width
pinned_absent = plan_means (bits_of (0 ∷ 2 ∷ [])) _ Big no_values 0

-- struct { int<8> a : a - 1B == 0; }
difference_overflows : Means (bits_of (128 ∷ []))
    (StructOf (Some (84 ∷ [])) false (FieldThen (Some (97 ∷ [])) None (IntegerOf (signed_type 8))
    (Some (Between Equal (Between Subtract (Name 0 0) (Number (signed_type 8) 1)) (Number (signed_type 32) 0))) None
    None NoFields))
    Big no_values 0 (Err (fault.Overflow, 0)) 7 1
unfolding bits_of binary number digits numeral_onto groups_from modulo with_sign converted is_signed_in brought prefixed
    shifted_left shifted_right on_common on_integers on_bits on_scaled on_texts combined to_integer to_offset in_unit
    divisor_in greatest_divisor and_operand evaluation constraint condition field_start extent_of then_ok framed
    from_inside constrained number_plan read_plan after_byte text_plan after_element elements_plan
    after_attempt plan least_width
difference_overflows = plan_means (bits_of (128 ∷ [])) _ Big no_values 0

-- struct { int<8> a : a / -1B == 0; }
quotient_overflows : Means (bits_of (128 ∷ []))
    (StructOf (Some (84 ∷ [])) false (FieldThen (Some (97 ∷ [])) None (IntegerOf (signed_type 8)) (Some
    (Between Equal (Between Divide (Name 0 0) (Before Minus (Number (signed_type 8) 1))) (Number (signed_type 32) 0)))
    None None NoFields))
    Big no_values 0 (Err (fault.Overflow, 0)) 8 1
unfolding bits_of binary number digits numeral_onto groups_from modulo with_sign converted is_signed_in brought prefixed
    shifted_left shifted_right on_common on_integers on_bits on_scaled on_texts combined to_integer to_offset in_unit
    divisor_in greatest_divisor and_operand evaluation constraint condition field_start extent_of then_ok framed
    from_inside constrained number_plan read_plan after_byte text_plan after_element elements_plan
    after_attempt plan least_width
quotient_overflows = plan_means (bits_of (128 ∷ [])) _ Big no_values 0

-- struct { byte a : 100B#B + 100B#B == 0#B; }
offset_sum_overflows : Means (bits_of (0 ∷ []))
    (StructOf (Some (84 ∷ [])) false (FieldThen (Some (97 ∷ [])) None (IntegerOf (unsigned_type 8))
    (Some (Between Equal (Between Add (InUnit 8 (Number (signed_type 8) 100)) (InUnit 8 (Number (signed_type 8) 100)))
    (InUnit 8 (Number (signed_type 32) 0)))) None None NoFields)) Big no_values 0 (Err (fault.Overflow, 0)) 9 1
unfolding bits_of binary number digits numeral_onto groups_from modulo with_sign converted is_signed_in brought prefixed
    shifted_left shifted_right on_common on_integers on_bits on_scaled on_texts combined to_integer to_offset in_unit
    divisor_in greatest_divisor and_operand evaluation constraint condition field_start extent_of then_ok framed
    from_inside constrained number_plan read_plan after_byte text_plan after_element elements_plan
    after_attempt plan least_width
offset_sum_overflows = plan_means (bits_of (0 ∷ [])) _ Big no_values 0

-- struct { byte a : 1UB#B - 2UB#B == 255#B; }
offset_difference_wraps : Means (bits_of (0 ∷ [])) (StructOf (Some (84 ∷ [])) false (FieldThen (Some (97 ∷ [])) None
    (IntegerOf (unsigned_type 8)) (Some (Between Equal (Between Subtract (InUnit 8 (Number (unsigned_type 8) 1))
    (InUnit 8 (Number (unsigned_type 8) 2))) (InUnit 8 (Number (signed_type 32) 255)))) None None NoFields)) Big
    no_values 0 (Ok (Mapped (StructLabel (Some (84 ∷ [])) ((Some (97 ∷ [])) ∷ [])) 0 8
    (MemberThen (Mapped (IntegerLabel (pos 0) (unsigned_type 8)) 0 8 NoMembers) NoMembers))) 11 2
unfolding bits_of binary number digits numeral_onto groups_from modulo with_sign converted is_signed_in brought prefixed
    shifted_left shifted_right on_common on_integers on_bits on_scaled on_texts combined to_integer to_offset in_unit
    divisor_in greatest_divisor and_operand evaluation constraint condition field_start extent_of then_ok framed
    from_inside constrained number_plan read_plan after_byte text_plan after_element elements_plan
    after_attempt plan least_width
offset_difference_wraps = plan_means (bits_of (0 ∷ [])) _ Big no_values 0

-- struct { byte a : a * 3UB#B == 44#B; }
offset_product_wraps : Means (bits_of (100 ∷ []))
    (StructOf (Some (84 ∷ [])) false (FieldThen (Some (97 ∷ [])) None (IntegerOf (unsigned_type 8)) (Some (Between Equal
    (Between Multiply (Name 0 0) (InUnit 8 (Number (unsigned_type 8) 3))) (InUnit 8 (Number (signed_type 32) 44))))
    None None NoFields))
    Big no_values 0 (Ok (Mapped (StructLabel (Some (84 ∷ [])) ((Some (97 ∷ [])) ∷ [])) 0 8
    (MemberThen (Mapped (IntegerLabel (pos 100) (unsigned_type 8)) 0 8 NoMembers) NoMembers))) 10 2
unfolding bits_of binary number digits numeral_onto groups_from modulo with_sign converted is_signed_in brought prefixed
    shifted_left shifted_right on_common on_integers on_bits on_scaled on_texts combined to_integer to_offset in_unit
    divisor_in greatest_divisor and_operand evaluation constraint condition field_start extent_of then_ok framed
    from_inside constrained number_plan read_plan after_byte text_plan after_element elements_plan
    after_attempt plan least_width
offset_product_wraps = plan_means (bits_of (100 ∷ [])) _ Big no_values 0

-- struct { byte a : 80B#8 % 7B#100 == 0#b; }
offset_remainder_overflows : Means (bits_of (0 ∷ []))
    (StructOf (Some (84 ∷ [])) false (FieldThen (Some (97 ∷ [])) None (IntegerOf (unsigned_type 8)) (Some
    (Between Equal (Between Remainder (InUnit 8 (Number (signed_type 8) 80)) (InUnit 100 (Number (signed_type 8) 7)))
    (InUnit 1 (Number (signed_type 32) 0)))) None None NoFields)) Big no_values 0 (Err (fault.Overflow, 0)) 9 1
unfolding bits_of binary number digits numeral_onto groups_from modulo with_sign converted is_signed_in brought prefixed
    shifted_left shifted_right on_common on_integers on_bits on_scaled on_texts combined to_integer to_offset in_unit
    divisor_in greatest_divisor and_operand evaluation constraint condition field_start extent_of then_ok framed
    from_inside constrained number_plan read_plan after_byte text_plan after_element elements_plan
    after_attempt plan least_width
offset_remainder_overflows = plan_means (bits_of (0 ∷ [])) _ Big no_values 0

-- struct { byte a : -1UB#B == 255#B; }
negated_offset_wraps : Means (bits_of (0 ∷ []))
    (StructOf (Some (84 ∷ [])) false (FieldThen (Some (97 ∷ [])) None (IntegerOf (unsigned_type 8)) (Some
    (Between Equal (Before Minus (InUnit 8 (Number (unsigned_type 8) 1))) (InUnit 8 (Number (signed_type 32) 255))))
    None None NoFields))
    Big no_values 0 (Ok (Mapped (StructLabel (Some (84 ∷ [])) ((Some (97 ∷ [])) ∷ [])) 0 8
    (MemberThen (Mapped (IntegerLabel (pos 0) (unsigned_type 8)) 0 8 NoMembers) NoMembers))) 9 2
unfolding bits_of binary number digits numeral_onto groups_from modulo with_sign converted is_signed_in brought prefixed
    shifted_left shifted_right on_common on_integers on_bits on_scaled on_texts combined to_integer to_offset in_unit
    divisor_in greatest_divisor and_operand evaluation constraint condition field_start extent_of then_ok framed
    from_inside constrained number_plan read_plan after_byte text_plan after_element elements_plan
    after_attempt plan least_width
negated_offset_wraps = plan_means (bits_of (0 ∷ [])) _ Big no_values 0

-- struct { byte a : +1#B == 8#b; }
plus_offset : Means (bits_of (0 ∷ []))
    (StructOf (Some (84 ∷ [])) false (FieldThen (Some (97 ∷ [])) None (IntegerOf (unsigned_type 8))
    (Some (Between Equal (Before Plus (InUnit 8 (Number (signed_type 32) 1))) (InUnit 1 (Number (signed_type 32) 8))))
    None None NoFields))
    Big no_values 0 (Ok (Mapped (StructLabel (Some (84 ∷ [])) ((Some (97 ∷ [])) ∷ [])) 0 8
    (MemberThen (Mapped (IntegerLabel (pos 0) (unsigned_type 8)) 0 8 NoMembers) NoMembers))) 9 2
unfolding bits_of binary number digits numeral_onto groups_from modulo with_sign converted is_signed_in brought prefixed
    shifted_left shifted_right on_common on_integers on_bits on_scaled on_texts combined to_integer to_offset in_unit
    divisor_in greatest_divisor and_operand evaluation constraint condition field_start extent_of then_ok framed
    from_inside constrained number_plan read_plan after_byte text_plan after_element elements_plan
    after_attempt plan least_width
plus_offset = plan_means (bits_of (0 ∷ [])) _ Big no_values 0

-- struct { byte a : (a == 1 ? -1 : 1U) > 0; }
choice_converts : Means (bits_of (1 ∷ []))
    (StructOf (Some (84 ∷ [])) false (FieldThen (Some (97 ∷ [])) None (IntegerOf (unsigned_type 8)) (Some
    (Between Greater (Bracket (Choice (Some (unsigned_type 32)) (Between Equal (Name 0 0) (Number (signed_type 32) 1))
    (Before Minus (Number (signed_type 32) 1)) (Number (unsigned_type 32) 1))) (Number (signed_type 32) 0))) None None
    NoFields))
    Big no_values 0 (Ok (Mapped (StructLabel (Some (84 ∷ [])) ((Some (97 ∷ [])) ∷ [])) 0 8
    (MemberThen (Mapped (IntegerLabel (pos 1) (unsigned_type 8)) 0 8 NoMembers) NoMembers))) 12 2
unfolding bits_of binary number digits numeral_onto groups_from modulo with_sign converted is_signed_in brought prefixed
    shifted_left shifted_right on_common on_integers on_bits on_scaled on_texts combined to_integer to_offset in_unit
    divisor_in greatest_divisor and_operand evaluation constraint condition field_start extent_of then_ok framed
    from_inside constrained number_plan read_plan after_byte text_plan after_element elements_plan
    after_attempt plan least_width
choice_converts = plan_means (bits_of (1 ∷ [])) _ Big no_values 0

-- struct { byte a : a >> 8 == 0; }
wide_shift_right : Means (bits_of (2 ∷ []))
    (StructOf (Some (84 ∷ [])) false (FieldThen (Some (97 ∷ [])) None (IntegerOf (unsigned_type 8))
    (Some (Between Equal (Between ShiftRight (Name 0 0) (Number (signed_type 32) 8)) (Number (signed_type 32) 0))) None
    None NoFields))
    Big no_values 0 (Err (fault.Index, 0)) 7 1
unfolding bits_of binary number digits numeral_onto groups_from modulo with_sign converted is_signed_in brought prefixed
    shifted_left shifted_right on_common on_integers on_bits on_scaled on_texts combined to_integer to_offset in_unit
    divisor_in greatest_divisor and_operand evaluation constraint condition field_start extent_of then_ok framed
    from_inside constrained number_plan read_plan after_byte text_plan after_element elements_plan
    after_attempt plan least_width
wide_shift_right = plan_means (bits_of (2 ∷ [])) _ Big no_values 0

-- struct { byte a : a << 256; }
great_count_left : Means (bits_of (2 ∷ []))
    (StructOf (Some (84 ∷ [])) false (FieldThen (Some (97 ∷ [])) None (IntegerOf (unsigned_type 8))
    (Some (Between ShiftLeft (Name 0 0) (Number (signed_type 32) 256))) None None NoFields))
    Big no_values 0 (Err (fault.Index, 0)) 6 1
unfolding bits_of binary number digits numeral_onto groups_from modulo with_sign converted is_signed_in brought prefixed
    shifted_left shifted_right on_common on_integers on_bits on_scaled on_texts combined to_integer to_offset in_unit
    divisor_in greatest_divisor and_operand evaluation constraint condition field_start extent_of then_ok framed
    from_inside constrained number_plan read_plan after_byte text_plan after_element elements_plan
    after_attempt plan least_width
great_count_left = plan_means (bits_of (2 ∷ [])) _ Big no_values 0

-- struct { byte a : a >> 256; }
great_count_right : Means (bits_of (2 ∷ []))
    (StructOf (Some (84 ∷ [])) false (FieldThen (Some (97 ∷ [])) None (IntegerOf (unsigned_type 8))
    (Some (Between ShiftRight (Name 0 0) (Number (signed_type 32) 256))) None None NoFields))
    Big no_values 0 (Err (fault.Index, 0)) 6 1
unfolding bits_of binary number digits numeral_onto groups_from modulo with_sign converted is_signed_in brought prefixed
    shifted_left shifted_right on_common on_integers on_bits on_scaled on_texts combined to_integer to_offset in_unit
    divisor_in greatest_divisor and_operand evaluation constraint condition field_start extent_of then_ok framed
    from_inside constrained number_plan read_plan after_byte text_plan after_element elements_plan
    after_attempt plan least_width
great_count_right = plan_means (bits_of (2 ∷ [])) _ Big no_values 0

-- struct { byte a : (300#B as offset<uint<8>,B>) == 44#B; }
conversion_to_offset_wraps : Means (bits_of (0 ∷ []))
    (StructOf (Some (84 ∷ [])) false (FieldThen (Some (97 ∷ [])) None (IntegerOf (unsigned_type 8))
    (Some (Between Equal (Bracket (ToOffset (unsigned_type 8) 8 (InUnit 8 (Number (signed_type 32) 300))))
    (InUnit 8 (Number (signed_type 32) 44)))) None None NoFields)) Big no_values 0
    (Ok (Mapped (StructLabel (Some (84 ∷ [])) ((Some (97 ∷ [])) ∷ [])) 0 8
    (MemberThen (Mapped (IntegerLabel (pos 0) (unsigned_type 8)) 0 8 NoMembers) NoMembers))) 10 2
unfolding bits_of binary number digits numeral_onto groups_from modulo with_sign converted is_signed_in brought prefixed
    shifted_left shifted_right on_common on_integers on_bits on_scaled on_texts combined to_integer to_offset in_unit
    divisor_in greatest_divisor and_operand evaluation constraint condition field_start extent_of then_ok framed
    from_inside constrained number_plan read_plan after_byte text_plan after_element elements_plan
    after_attempt plan least_width
conversion_to_offset_wraps = plan_means (bits_of (0 ∷ [])) _ Big no_values 0

-- struct { byte a : ~a == 240; }
complement_converts : Means (bits_of (15 ∷ []))
    (StructOf (Some (84 ∷ [])) false (FieldThen (Some (97 ∷ [])) None (IntegerOf (unsigned_type 8))
    (Some (Between Equal (Before Complement (Name 0 0)) (Number (signed_type 32) 240))) None None NoFields))
    Big no_values 0 (Ok (Mapped (StructLabel (Some (84 ∷ [])) ((Some (97 ∷ [])) ∷ [])) 0 8
    (MemberThen (Mapped (IntegerLabel (pos 15) (unsigned_type 8)) 0 8 NoMembers) NoMembers))) 7 2
unfolding bits_of binary number digits numeral_onto groups_from modulo with_sign converted is_signed_in brought prefixed
    shifted_left shifted_right on_common on_integers on_bits on_scaled on_texts combined to_integer to_offset in_unit
    divisor_in greatest_divisor and_operand evaluation constraint condition field_start extent_of then_ok framed
    from_inside constrained number_plan read_plan after_byte text_plan after_element elements_plan
    after_attempt plan least_width
complement_converts = plan_means (bits_of (15 ∷ [])) _ Big no_values 0

-- struct { byte[2] xs : xs'length - 3 > 4294967295L; }
length_is_unsigned : Means (bits_of (0 ∷ 0 ∷ [])) (StructOf (Some (84 ∷ [])) false (FieldThen (Some (120 ∷ 115 ∷ []))
    None (ArrayOf (IntegerOf (unsigned_type 8)) (ByCount (Number (signed_type 32) 2)))
    (Some (Between Greater (Between Subtract (AttributeOf Length (Name 0 0)) (Number (signed_type 32) 3))
    (Number (signed_type 64) 4294967295))) None None NoFields)) Big no_values 0
    (Ok (Mapped (StructLabel (Some (84 ∷ [])) ((Some (120 ∷ 115 ∷ [])) ∷ [])) 0 16
    (MemberThen (Mapped ArrayLabel 0 16 (MemberThen (Mapped (IntegerLabel (pos 0) (unsigned_type 8)) 0 8 NoMembers)
    (MemberThen (Mapped (IntegerLabel (pos 0) (unsigned_type 8)) 8 16 NoMembers) NoMembers))) NoMembers))) 14 4
unfolding bits_of binary number digits numeral_onto groups_from modulo with_sign converted is_signed_in brought prefixed
    shifted_left shifted_right on_common on_integers on_bits on_scaled on_texts combined to_integer to_offset in_unit
    divisor_in greatest_divisor and_operand evaluation constraint condition field_start extent_of then_ok framed
    from_inside constrained number_plan read_plan after_byte text_plan after_element elements_plan
    after_attempt plan least_width
length_is_unsigned = plan_means (bits_of (0 ∷ 0 ∷ [])) _ Big no_values 0

-- struct { byte a : a'size - 9#b > 4294967295L#b; }
size_is_unsigned : Means (bits_of (0 ∷ []))
    (StructOf (Some (84 ∷ [])) false (FieldThen (Some (97 ∷ [])) None (IntegerOf (unsigned_type 8))
    (Some (Between Greater (Between Subtract (AttributeOf Size (Name 0 0)) (InUnit 1 (Number (signed_type 32) 9)))
    (InUnit 1 (Number (signed_type 64) 4294967295)))) None None NoFields)) Big no_values 0
    (Ok (Mapped (StructLabel (Some (84 ∷ [])) ((Some (97 ∷ [])) ∷ [])) 0 8
    (MemberThen (Mapped (IntegerLabel (pos 0) (unsigned_type 8)) 0 8 NoMembers) NoMembers))) 11 2
unfolding bits_of binary number digits numeral_onto groups_from modulo with_sign converted is_signed_in brought prefixed
    shifted_left shifted_right on_common on_integers on_bits on_scaled on_texts combined to_integer to_offset in_unit
    divisor_in greatest_divisor and_operand evaluation constraint condition field_start extent_of then_ok framed
    from_inside constrained number_plan read_plan after_byte text_plan after_element elements_plan
    after_attempt plan least_width
size_is_unsigned = plan_means (bits_of (0 ∷ [])) _ Big no_values 0

-- a value that fits struct { byte a : a == 1; byte x if a == 2; }
fits : Fits 8 (StructOf (Some (84 ∷ [])) false (FieldThen (Some (97 ∷ [])) None (IntegerOf (unsigned_type 8))
    (Some (Between Equal (Name 0 0) (Number (signed_type 32) 1))) None None (FieldThen (Some (120 ∷ [])) None
    (IntegerOf (unsigned_type 8)) None None (Some (Between Equal (Name 0 0) (Number (signed_type 32) 2))) NoFields)))
    no_values 0 (Mapped (StructLabel (Some (84 ∷ [])) ((Some (97 ∷ [])) ∷ (Some (120 ∷ [])) ∷ [])) 0 8
    (MemberThen (Mapped (IntegerLabel (pos 1) (unsigned_type 8)) 0 8 NoMembers) (AbsentThen NoMembers)))
unfolding Fits FitsNumber modulo with_sign converted on_common on_integers combined and_operand evaluation constraint
    condition field_start
fits = (
  _,
  8,
  inr (
    refl,
    0,
    refl,
    omega arith,
    Mapped (IntegerLabel (pos 1) (unsigned_type 8)) 0 8 NoMembers,
    ((1, omega arith, refl), omega arith),
    refl,
    inl (refl, (refl, refl)),
  ),
  omega arith,
  refl,
)

-- answers under a limit of steps
limit_reached : Answer (bits_of (5 ∷ 6 ∷ 0 ∷ [])) (StructOf (Some (65 ∷ [])) false
    (FieldThen (Some (101 ∷ 115 ∷ [])) None (ArrayOf (StructOf (Some (69 ∷ [])) false (FieldThen (Some (118 ∷ [])) None
    (IntegerOf (unsigned_type 8)) (Some (Between NotEqual (Name 0 0) (Number (signed_type 32) 0))) None None NoFields))
    Unbounded) None None None (FieldThen (Some (122 ∷ [])) None (IntegerOf (unsigned_type 8)) None None None NoFields)))
    Big 0 25 (Err (fault.Limit, 0)) 25 8
limit_reached = too_long constrained_elements (omega arith) (omega arith)

limit_enough : Answer (bits_of (5 ∷ 6 ∷ 0 ∷ [])) (StructOf (Some (65 ∷ [])) false
    (FieldThen (Some (101 ∷ 115 ∷ [])) None (ArrayOf (StructOf (Some (69 ∷ [])) false (FieldThen (Some (118 ∷ [])) None
    (IntegerOf (unsigned_type 8)) (Some (Between NotEqual (Name 0 0) (Number (signed_type 32) 0))) None None NoFields))
    Unbounded) None None None (FieldThen (Some (122 ∷ [])) None (IntegerOf (unsigned_type 8)) None None None NoFields)))
    Big 0 26 (Ok (Mapped (StructLabel (Some (65 ∷ [])) ((Some (101 ∷ 115 ∷ [])) ∷ (Some (122 ∷ [])) ∷ [])) 0 24
    (MemberThen (Mapped ArrayLabel 0 16 (MemberThen (Mapped (StructLabel (Some (69 ∷ [])) ((Some (118 ∷ [])) ∷ [])) 0 8
    (MemberThen (Mapped (IntegerLabel (pos 5) (unsigned_type 8)) 0 8 NoMembers) NoMembers))
    (MemberThen (Mapped (StructLabel (Some (69 ∷ [])) ((Some (118 ∷ [])) ∷ [])) 8 16
    (MemberThen (Mapped (IntegerLabel (pos 6) (unsigned_type 8)) 8 16 NoMembers) NoMembers)) NoMembers)))
    (MemberThen (Mapped (IntegerLabel (pos 0) (unsigned_type 8)) 16 24 NoMembers) NoMembers))))
    26 8
limit_enough = in_time constrained_elements (omega arith)

no_steps_past_end : Answer (bits_of (18 ∷ 52 ∷ [])) (IntegerOf (unsigned_type 8)) Big 17 0 (Err (fault.End, 17)) 0 0
no_steps_past_end = in_time past_end_start (omega arith)

-- the bounds of some of these types
constrained_elements_cost : cost (StructOf (Some (65 ∷ [])) false
    (FieldThen (Some (101 ∷ 115 ∷ [])) None (ArrayOf (StructOf (Some (69 ∷ [])) false (FieldThen (Some (118 ∷ [])) None
    (IntegerOf (unsigned_type 8)) (Some (Between NotEqual (Name 0 0) (Number (signed_type 32) 0))) None None NoFields))
    Unbounded) None None None (FieldThen (Some (122 ∷ [])) None (IntegerOf (unsigned_type 8)) None None None NoFields)))
    24 ≡ 33
unfolding cost least_width
constrained_elements_cost = refl

constrained_elements_room : room (StructOf (Some (65 ∷ [])) false
    (FieldThen (Some (101 ∷ 115 ∷ [])) None (ArrayOf (StructOf (Some (69 ∷ [])) false (FieldThen (Some (118 ∷ [])) None
    (IntegerOf (unsigned_type 8)) (Some (Between NotEqual (Name 0 0) (Number (signed_type 32) 0))) None None NoFields))
    Unbounded) None None None (FieldThen (Some (122 ∷ [])) None (IntegerOf (unsigned_type 8)) None None None NoFields)))
    24 ≡ 21
unfolding room least_width
constrained_elements_room = refl

wide_and_narrow_cost : cost (ArrayOf (UnionOf (Some (85 ∷ [])) (PartThen (Some (97 ∷ [])) None
    (IntegerOf (unsigned_type 16)) (Some (Between Equal (Name 0 0) (Number (signed_type 32) 1)))
    (PartThen (Some (98 ∷ [])) None (IntegerOf (unsigned_type 8)) None NoParts))) Unbounded) 24 ≡ 37
unfolding cost least_width
wide_and_narrow_cost = refl

wide_and_narrow_room : room (ArrayOf (UnionOf (Some (85 ∷ [])) (PartThen (Some (97 ∷ [])) None
    (IntegerOf (unsigned_type 16)) (Some (Between Equal (Name 0 0) (Number (signed_type 32) 1)))
    (PartThen (Some (98 ∷ [])) None (IntegerOf (unsigned_type 8)) None NoParts))) Unbounded) 24 ≡ 17
unfolding room least_width
wide_and_narrow_room = refl

greatest_end_cost : cost (ArrayOf (StructOf (Some (82 ∷ [])) false (FieldThen (Some (102 ∷ 97 ∷ 114 ∷ [])) None
    (IntegerOf (unsigned_type 8)) None (Some (InUnit 8 (Number (signed_type 32) 1))) None (FieldThen (Some (110 ∷ []))
    None (IntegerOf (unsigned_type 8)) None (Some (InUnit 8 (Number (signed_type 32) 0))) None NoFields)))
    (ByCount (Number (signed_type 32) 2))) 32 ≡ 52
unfolding cost least_width
greatest_end_cost = refl
