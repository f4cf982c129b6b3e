-- Rows of layouts and of how elements are kept, computed by their definitions.
use Rattle.std.proofs.Common.{◌≡◌, ℕ, zero, suc, true, false, [], ◌∷◌, Option, Some, None, refl}
use Rattle.pickle_tree.specs.declared.tree.Infix.TheVariants.{Add}
use Rattle.pickle_types.specs.Operators.{whole}
use Rattle.pickle_types.specs.Types.{Term, Number, Name, Bracket, Between, PokeType, IntegerOf, OffsetOf, StringOf, ArrayOf, StructOf, IntegralOf, UnionOf, Bound, Unbounded, ByCount, BySize, Fields, NoFields, FieldThen, Parts, NoParts, PartThen}
use Rattle.mapping_plans.specs.Rows.{Apart, Records, Values, row_of, weight_of}

-- a field with a constraint, and others after it
abbrev field_then : PokeType → (constraint : Option Term) → Fields → Fields
field_then type constraint rest = FieldThen None None type constraint None None rest

abbrev part_then : PokeType → (constraint : Option Term) → Parts → Parts
part_then type constraint rest = PartThen None None type constraint rest

abbrev number : (width : ℕ) → PokeType
number width = IntegerOf (whole width false)

abbrev struct : Fields → PokeType
struct fields = StructOf None false fields

-- struct { uint<8> a; uint<16> b; }
abbrev pair : PokeType
pair = struct (field_then (number 8) None (field_then (number 16) None NoFields))

-- struct uint<8> { uint<4> hi; uint<4> lo; }
abbrev nibbles : PokeType
nibbles = IntegralOf None (whole 8 false) (part_then (number 4) None (part_then (number 4) None NoParts))

-- structs of numbers stay such structs
struct_of_numbers : row_of pair ≡ Records (8 ∷ 16 ∷ [])
struct_of_numbers = refl

-- struct { struct { uint<8> a; uint<16> b; } p; int<32> n; }
struct_in_struct : row_of (struct (field_then pair None (field_then (IntegerOf (whole 32 true)) None NoFields)))
    ≡ Values 7
struct_in_struct = refl

-- an integral struct, also in a struct, with an offset after it
integral : row_of nibbles ≡ Values 2
integral = refl

integral_in_struct :
    row_of (struct (field_then nibbles None (field_then (OffsetOf (whole 12 false) 8) None NoFields))) ≡ Values 4
integral_in_struct = refl

-- an integral struct in an integral struct: struct uint<16> { struct uint<8> { .. } n; uint<8> b; }
integral_in_integral :
    row_of (IntegralOf None (whole 16 false) (part_then nibbles None (part_then (number 8) None NoParts))) ≡ Values 3
integral_in_integral = refl

-- one whose fields have fewer bits than itself; no well typed pickle has it
narrow_fields : row_of (IntegralOf None (whole 8 false) (part_then (number 4) None NoParts)) ≡ Apart
narrow_fields = refl

-- what has a text, an unbounded array, a union or a condition isn't of fixed layout
text_in_struct : row_of (struct (field_then pair None (field_then StringOf None NoFields))) ≡ Apart
text_in_struct = refl

array_in_struct :
    row_of (struct (field_then pair None (field_then (ArrayOf (number 8) Unbounded) None NoFields))) ≡ Apart
array_in_struct = refl

union_in_struct : row_of (struct (field_then pair None (field_then (UnionOf None (part_then (number 8) None NoParts))
    None NoFields))) ≡ Apart
union_in_struct = refl

conditional : row_of (struct (field_then pair None
    (FieldThen None None (number 8) None None (Some (Name 0 0)) NoFields))) ≡ Apart
conditional = refl

-- ---- arrays of numbers

abbrev literal : ℕ → Term
literal count = Number (whole 32 true) count

-- a field that is an array of a literal count
abbrev numbers : (width count : ℕ) → PokeType
numbers width count = ArrayOf (number width) (ByCount (literal count))

abbrev bytes : (count : ℕ) → PokeType
bytes count = numbers 8 count

-- struct { byte[16] id; uint<32> n; }
array_and_number : row_of (struct (field_then (bytes 16) None (field_then (number 32) None NoFields))) ≡ Values 20
array_and_number = refl

-- the array alone, or inside
array_alone : row_of (struct (field_then (bytes 16) None NoFields)) ≡ Values 16
array_alone = refl

array_inside : row_of (struct (field_then (struct (field_then (bytes 3) None NoFields)) None
    (field_then (number 16) None NoFields))) ≡ Values 5
array_inside = refl

-- each number takes whole bytes
array_of_nibbles : row_of (struct (field_then (numbers 4 2) None NoFields)) ≡ Values 2
array_of_nibbles = refl

array_of_offsets : row_of (struct (field_then (ArrayOf (OffsetOf (whole 12 false) 8) (ByCount (literal 3))) None
    NoFields)) ≡ Values 6
array_of_offsets = refl

-- numbers of at most 32 bits
narrow_array : row_of (struct (field_then (numbers 32 2) None NoFields)) ≡ Values 8
narrow_array = refl

over_narrow : row_of (struct (field_then (numbers 33 2) None NoFields)) ≡ Apart
over_narrow = refl

wide_array : row_of (struct (field_then (numbers 64 2) None NoFields)) ≡ Apart
wide_array = refl

-- an array without elements takes no bytes, so a struct of few bytes could have any number of such arrays
no_elements : row_of (struct (field_then (bytes 0) None (field_then (number 8) None NoFields))) ≡ Apart
no_elements = refl

only_no_elements : row_of (struct (field_then (bytes 0) None NoFields)) ≡ Apart
only_no_elements = refl

-- at most 512 bytes, with what is beside it
long_array : row_of (struct (field_then (bytes 512) None NoFields)) ≡ Values 512
long_array = refl

too_long_array : row_of (struct (field_then (bytes 513) None NoFields)) ≡ Apart
too_long_array = refl

array_and_last : row_of (struct (field_then (bytes 511) None (field_then (number 8) None NoFields))) ≡ Values 512
array_and_last = refl

array_and_more : row_of (struct (field_then (bytes 512) None (field_then (number 8) None NoFields))) ≡ Apart
array_and_more = refl

-- a number and an array of another bound
abbrev bounded : Bound → PokeType
bounded bound = struct (field_then (number 8) None (field_then (ArrayOf (number 8) bound) None NoFields))

counted_by_name : row_of (bounded (ByCount (Name 0 0))) ≡ Apart
counted_by_name = refl

counted_in_brackets : row_of (bounded (ByCount (Bracket (literal 4)))) ≡ Apart
counted_in_brackets = refl

sized : row_of (bounded (BySize (literal 4))) ≡ Apart
sized = refl

unbounded : row_of (bounded Unbounded) ≡ Apart
unbounded = refl

counted : row_of (bounded (ByCount (literal 4))) ≡ Values 5
counted = refl

-- elements that aren't numbers, and an array that is itself an element
array_of_arrays : row_of (struct (field_then (ArrayOf (bytes 2) (ByCount (literal 2))) None NoFields)) ≡ Apart
array_of_arrays = refl

array_of_structs : row_of (struct (field_then (ArrayOf pair (ByCount (literal 2))) None NoFields)) ≡ Apart
array_of_structs = refl

array_of_integrals : row_of (struct (field_then (ArrayOf nibbles (ByCount (literal 2))) None NoFields)) ≡ Apart
array_of_integrals = refl

array_of_texts : row_of (struct (field_then (ArrayOf StringOf (ByCount (literal 2))) None NoFields)) ≡ Apart
array_of_texts = refl

array_as_element : row_of (bytes 16) ≡ Apart
array_as_element = refl

-- struct { byte[16] id : ..; }, where the constraint names the first member of the frame at a level: the array itself,
-- or a member of the frame of the array of these structs, or something around that
abbrev constrained_array : (level : ℕ) → PokeType
constrained_array level = struct (field_then (bytes 16) (Some (Name level 0)) NoFields)

own_array_constrained : row_of (constrained_array 0) ≡ Values 16
own_array_constrained = refl

frame_array_constrained : row_of (constrained_array 1) ≡ Apart
frame_array_constrained = refl

around_array_constrained : row_of (constrained_array 2) ≡ Values 16
around_array_constrained = refl

-- the same in a struct inside
frame_array_inside : row_of (struct (field_then (constrained_array 2) None NoFields)) ≡ Apart
frame_array_inside = refl

outer_array_inside : row_of (struct (field_then (constrained_array 1) None NoFields)) ≡ Values 16
outer_array_inside = refl

-- ---- labels, pinned structs and constraints

-- a field with a label, in the struct or in one inside it
labelled : row_of (struct (field_then pair None
    (FieldThen None None (number 8) None (Some (Name 0 0)) None NoFields))) ≡ Apart
labelled = refl

labelled_inside : row_of (struct (field_then (struct
    (field_then (number 8) None (FieldThen None None (number 8) None (Some (Name 0 0)) None NoFields))) None NoFields))
    ≡ Apart
labelled_inside = refl

-- a pinned struct, or one inside
pinned : row_of (StructOf None true (field_then pair None NoFields)) ≡ Apart
pinned = refl

pinned_inside : row_of (struct (field_then (StructOf None true (field_then (number 8) None NoFields)) None NoFields))
    ≡ Apart
pinned_inside = refl

-- struct { struct { uint<8> a : ..; } p; }, where the constraint names the first member of the frame at a level
abbrev constrained : (level : ℕ) → PokeType
constrained level = struct (field_then (struct (field_then (number 8) (Some (Name level 0)) NoFields)) None NoFields)

-- a constraint that names its own number, or a field of the struct around it
own_constrained : row_of (constrained 0) ≡ Values 1
own_constrained = refl

outer_constrained : row_of (constrained 1) ≡ Values 1
outer_constrained = refl

-- one that names a member of the array's frame
array_constrained : row_of (constrained 2) ≡ Apart
array_constrained = refl

-- one that names something around the array
around_constrained : row_of (constrained 3) ≡ Values 1
around_constrained = refl

-- the same in an integral struct that is the element, or that is in it
abbrev constrained_digits : (level : ℕ) → PokeType
constrained_digits level =
    IntegralOf None (whole 8 false) (part_then (number 4) (Some (Name level 0)) (part_then (number 4) None NoParts))

array_digits : row_of (constrained_digits 1) ≡ Apart
array_digits = refl

around_digits : row_of (constrained_digits 2) ≡ Values 2
around_digits = refl

struct_digits : row_of (struct (field_then (constrained_digits 1) None NoFields)) ≡ Values 2
struct_digits = refl

array_digits_inside : row_of (struct (field_then (constrained_digits 2) None NoFields)) ≡ Apart
array_digits_inside = refl

-- ---- how many bytes

-- a struct without bytes, or with one inside
empty : row_of (struct NoFields) ≡ Apart
empty = refl

empty_inside : row_of (struct (field_then pair None (field_then (struct NoFields) None NoFields))) ≡ Apart
empty_inside = refl

-- eight structs inside one another twice are 8 bytes each; 64 such structs take 512 bytes, and one byte more is too
-- many
abbrev twice : PokeType → PokeType
twice type = struct (field_then type None (field_then type None NoFields))

eight : PokeType
eight = twice (twice (twice (number 8)))

most : PokeType
most = twice (twice (twice (twice (twice (twice eight)))))

at_most : row_of most ≡ Values 512
unfolding most eight
at_most = refl

too_many : row_of (struct (field_then most None (field_then (number 1) None NoFields))) ≡ Apart
unfolding most eight
too_many = refl

-- ---- how much there is to look at

-- struct { struct { uint<8> a; uint<16> b; } p; uint<8> c : 1 + 1; } has two structs, three numbers, and a constraint
-- of three parts
weight_of_five : weight_of (struct (field_then pair None (field_then (number 8)
    (Some (Between Add (literal 1) (literal 1))) NoFields))) ≡ 8
weight_of_five = refl

-- a pair in so many structs, and structs of two such structs each
abbrev wrapped : ℕ → PokeType
wrapped zero = pair
wrapped (suc n) = struct (field_then (wrapped n) None NoFields)

abbrev doubled : ℕ → PokeType → PokeType
doubled zero type = type
doubled (suc n) type = struct (field_then (doubled n type) None (field_then (doubled n type) None NoFields))

-- 4095 parts, and 4223
light : row_of (doubled 7 (wrapped 28)) ≡ Values 384
light = refl

heavy : row_of (doubled 7 (wrapped 29)) ≡ Apart
heavy = refl
