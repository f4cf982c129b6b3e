-- How many bits of a value the constraints of its type test, as far as these are constraints of numbers.
use Rattle.std.specs.Prelude.{ℕ, zero, suc, ◌+◌, min, Option, Some, None}
use Rattle.pickle_types.specs.declared.integer.IntegerType.{IntegerType}
use Rattle.pickle_types.specs.Types.{Term, PokeType, IntegerOf, OffsetOf, StringOf, ArrayOf, StructOf, IntegralOf, UnionOf, Fields, NoFields, FieldThen, Parts, NoParts, PartThen}
use Rattle.pickle_meaning.specs.Means.{number_type}
use Rattle.pickle_meaning.specs.Values.{Value, Members, label_of, members_of, member_at, member_count}
use Rattle.value_store.specs.Labels.{taken_of}

-- what a type that is read as one number counts: its width, and nothing that is inside it
abbrev pub number_bits : Option IntegerType → (inside : ℕ) → ℕ
number_bits None inside = inside
number_bits (Some type) inside = type.width

-- what a field or an alternative counts: only with a constraint of its own does a number count
abbrev pub own_bits : Option Term → PokeType → (inside : ℕ) → ℕ
own_bits None type inside = inside
own_bits (Some constraint) type inside = number_bits (number_type type) inside

-- what a member counts, if it is there
abbrev pub bits_of_member : (bits : Value → ℕ) → Option Value → ℕ
bits_of_member bits None = 0
bits_of_member bits (Some value) = bits value

-- what inside count alike, so many from a place on
abbrev pub elements_bits : (bits : Value → ℕ) → Members → (count place : ℕ) → ℕ
elements_bits bits inside zero place = 0
elements_bits bits inside (suc count) place =
    bits_of_member bits (member_at inside place) + elements_bits bits inside count (place + 1)

unfoldable mutual
  -- the constrained bits inside a value of a type
  pub bits_inside : PokeType → Value → ℕ
  bits_inside (IntegerOf type) value = 0
  bits_inside (OffsetOf type unit) value = 0
  bits_inside StringOf value = 0
  bits_inside (ArrayOf element bound) value =
      elements_bits (bits_inside element) (members_of value) (member_count (members_of value)) 0
  bits_inside (StructOf name pinned fields) value = fields_bits fields (members_of value) 0
  bits_inside (IntegralOf name type fields) value = digits_bits fields (members_of value) 0
  bits_inside (UnionOf name alternatives) value =
      taken_bits alternatives (taken_of (label_of value)) (member_at (members_of value) 0)

  -- those of the fields of a struct, of which the first stands at a place
  pub fields_bits : Fields → Members → (place : ℕ) → ℕ
  fields_bits NoFields inside place = 0
  fields_bits (FieldThen name order type constraint label condition rest) inside place =
      bits_of_member (λ value. own_bits constraint type (bits_inside type value)) (member_at inside place)
      + fields_bits rest inside (place + 1)

  -- those of the fields of an integral struct
  pub digits_bits : Parts → Members → (place : ℕ) → ℕ
  digits_bits NoParts inside place = 0
  digits_bits (PartThen name order type constraint rest) inside place =
      bits_of_member (λ value. own_bits constraint type (bits_inside type value)) (member_at inside place)
      + digits_bits rest inside (place + 1)

  -- those of the alternative of a union that matched, by its number
  pub taken_bits : Parts → Option ℕ → Option Value → ℕ
  taken_bits NoParts taken value = 0
  taken_bits (PartThen name order type constraint rest) None value = 0
  taken_bits (PartThen name order type constraint rest) (Some zero) value =
      bits_of_member (λ value. own_bits constraint type (bits_inside type value)) value
  taken_bits (PartThen name order type constraint rest) (Some (suc index)) value = taken_bits rest (Some index) value

-- a number of bits as it is counted: 2^64 - 1 where there are more
abbrev pub capped : ℕ → ℕ
capped bits = min bits 18446744073709551615
