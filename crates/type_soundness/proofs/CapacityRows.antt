-- Rows of capacity bounds, computed by their definition.
use Rattle.std.proofs.Common.{◌≡◌, Bool, true, false, ℕ, Some, None, refl}
use Rattle.pickle_types.specs.Types.{Number, Name, PokeType, IntegerOf, StringOf, ArrayOf, StructOf, IntegralOf, UnionOf, Unbounded, ByCount, NoFields, FieldThen, NoParts, PartThen}
use Rattle.pickle_types.specs.Bounds.{least_width, room}
use Rattle.pickle_types.specs.Operators.{whole}
use Rattle.value_store.specs.Takes.{NodesOf, FamiliesOf, LinksOf, PendingOf, TextsOf, BytesOf}
use Rattle.type_soundness.specs.Capacity.{capacity_bound}

-- what each vector has: nodes, families, links, pending children, texts and bytes
record AreBounds (packs : Bool) (ty : PokeType) (m : ℕ) (nodes families links pending texts bytes : ℕ) : Type 0 where
  of_nodes : capacity_bound packs NodesOf ty m ≡ nodes
  of_families : capacity_bound packs FamiliesOf ty m ≡ families
  of_links : capacity_bound packs LinksOf ty m ≡ links
  of_pending : capacity_bound packs PendingOf ty m ≡ pending
  of_texts : capacity_bound packs TextsOf ty m ≡ texts
  of_bytes : capacity_bound packs BytesOf ty m ≡ bytes

-- uint<16>[]
numbers : PokeType
numbers = ArrayOf (IntegerOf (whole 16 false)) Unbounded

-- struct { uint<8> n; string s; uint<16>[] a; }
record_type : PokeType
record_type = StructOf None false (FieldThen None None (IntegerOf (whole 8 false)) None None None
    (FieldThen None None StringOf None None None (FieldThen None None numbers None None None NoFields)))

-- union { uint<16>[] a; string s; }
choice : PokeType
choice = UnionOf None (PartThen None None numbers None (PartThen None None StringOf None NoParts))

-- struct { uint<8> x; uint<16> y; }[]
pairs : PokeType
pairs = ArrayOf (StructOf None false (FieldThen None None (IntegerOf (whole 8 false)) None None None
    (FieldThen None None (IntegerOf (whole 16 false)) None None None NoFields))) Unbounded

-- struct { uint<8> x : ..; }[], where the constraint names the first member of the frame at a level
constrained : (level : ℕ) → PokeType
constrained level = ArrayOf (StructOf None false
    (FieldThen None None (IntegerOf (whole 8 false)) (Some (Name level 0)) None None NoFields)) Unbounded

-- struct { struct { uint<8> x; uint<16> y; } p; uint<8> n; }[]
nested : PokeType
nested = ArrayOf (StructOf None false (FieldThen None None
    (StructOf None false (FieldThen None None (IntegerOf (whole 8 false)) None None None
    (FieldThen None None (IntegerOf (whole 16 false)) None None None NoFields))) None None None
    (FieldThen None None (IntegerOf (whole 8 false)) None None None NoFields))) Unbounded

-- struct uint<8> { uint<4> hi; uint<4> lo; }[]
digits : PokeType
digits = ArrayOf (IntegralOf None (whole 8 false) (PartThen None None (IntegerOf (whole 4 false)) None
    (PartThen None None (IntegerOf (whole 4 false)) None NoParts))) Unbounded

-- struct { NUMBER[4] id; uint<16> n; }[], where the numbers have so many bits
identified : (width : ℕ) → PokeType
identified width = ArrayOf (StructOf None false (FieldThen None None
    (ArrayOf (IntegerOf (whole width false)) (ByCount (Number (whole 32 true) 4))) None None None
    (FieldThen None None (IntegerOf (whole 16 false)) None None None NoFields))) Unbounded

-- ten bytes: at most five numbers of 16 bits, and one more is tried
packed_numbers : AreBounds true numbers 80 1 1 0 1 1 12
unfolding capacity_bound least_width numbers
packed_numbers =
    record { of_nodes = refl; of_families = refl; of_links = refl; of_pending = refl; of_texts = refl; of_bytes = refl }

single_numbers : AreBounds false numbers 80 7 1 6 7 0 0
unfolding capacity_bound least_width numbers
single_numbers =
    record { of_nodes = refl; of_families = refl; of_links = refl; of_pending = refl; of_texts = refl; of_bytes = refl }

packed_record : AreBounds true record_type 80 4 2 3 4 2 22
unfolding capacity_bound least_width numbers record_type
packed_record =
    record { of_nodes = refl; of_families = refl; of_links = refl; of_pending = refl; of_texts = refl; of_bytes = refl }

packed_choice : AreBounds true choice 80 2 2 1 2 1 12
unfolding capacity_bound least_width numbers choice
packed_choice =
    record { of_nodes = refl; of_families = refl; of_links = refl; of_pending = refl; of_texts = refl; of_bytes = refl }

numbers_room : room numbers 80 ≡ 13
unfolding room least_width numbers
numbers_room = refl

-- at most three structs of three bytes, and one more is tried
packed_pairs : AreBounds true pairs 80 6 1 2 3 1 12
unfolding capacity_bound least_width pairs
packed_pairs =
    record { of_nodes = refl; of_families = refl; of_links = refl; of_pending = refl; of_texts = refl; of_bytes = refl }

single_pairs : AreBounds false pairs 80 13 5 12 13 0 0
unfolding capacity_bound least_width pairs
single_pairs =
    record { of_nodes = refl; of_families = refl; of_links = refl; of_pending = refl; of_texts = refl; of_bytes = refl }

pairs_room : room pairs 80 ≡ 25
unfolding room least_width pairs
pairs_room = refl

-- a constraint that names its own number
own_constrained : AreBounds true (constrained 0) 80 4 1 1 2 1 11
unfolding capacity_bound least_width constrained
own_constrained =
    record { of_nodes = refl; of_families = refl; of_links = refl; of_pending = refl; of_texts = refl; of_bytes = refl }

-- one that names a member of the frame around the struct, which is the array's: these aren't packed
next_constrained : AreBounds true (constrained 1) 80 23 12 22 23 0 0
unfolding capacity_bound least_width constrained
next_constrained =
    record { of_nodes = refl; of_families = refl; of_links = refl; of_pending = refl; of_texts = refl; of_bytes = refl }

-- one that names a field of the struct around the array
outer_constrained : AreBounds true (constrained 2) 80 4 1 1 2 1 11
unfolding capacity_bound least_width constrained
outer_constrained =
    record { of_nodes = refl; of_families = refl; of_links = refl; of_pending = refl; of_texts = refl; of_bytes = refl }

-- at most two structs of four bytes, and one more is tried: each has five nodes, two families and four links
packed_nested : AreBounds true nested 80 16 7 12 6 1 12
unfolding capacity_bound least_width nested
packed_nested =
    record { of_nodes = refl; of_families = refl; of_links = refl; of_pending = refl; of_texts = refl; of_bytes = refl }

-- on one byte there is none, but one is tried
one_nested : AreBounds true nested 8 11 5 8 6 1 0
unfolding capacity_bound least_width nested
one_nested =
    record { of_nodes = refl; of_families = refl; of_links = refl; of_pending = refl; of_texts = refl; of_bytes = refl }

single_nested : AreBounds false nested 80 16 7 15 16 0 0
unfolding capacity_bound least_width nested
single_nested =
    record { of_nodes = refl; of_families = refl; of_links = refl; of_pending = refl; of_texts = refl; of_bytes = refl }

nested_room : room nested 8 ≡ 11
unfolding room least_width nested
nested_room = refl

-- at most three integral structs of a byte, with two bytes of numbers each, and one more is tried
packed_digits : AreBounds true digits 24 10 4 6 4 1 8
unfolding capacity_bound least_width digits
packed_digits =
    record { of_nodes = refl; of_families = refl; of_links = refl; of_pending = refl; of_texts = refl; of_bytes = refl }

-- Arrays add nothing to the least width of a struct: up to six structs of two bytes are counted on twelve bytes, and
-- one more is tried, whose array may take a byte for each byte of the file, and one more. Each that fits has six bytes,
-- and the four of its array.
packed_identified : AreBounds true (identified 8) 96 49 7 45 17 3 73
unfolding capacity_bound least_width identified
packed_identified =
    record { of_nodes = refl; of_families = refl; of_links = refl; of_pending = refl; of_texts = refl; of_bytes = refl }

single_identified : AreBounds false (identified 8) 96 113 15 112 113 0 0
unfolding capacity_bound least_width identified
single_identified =
    record { of_nodes = refl; of_families = refl; of_links = refl; of_pending = refl; of_texts = refl; of_bytes = refl }

identified_room : room (identified 8) 96 ≡ 225
unfolding room least_width identified
identified_room = refl

-- on five bytes there is none, but the array of one is tried
one_identified : AreBounds true (identified 8) 40 28 7 24 10 3 6
unfolding capacity_bound least_width identified
one_identified =
    record { of_nodes = refl; of_families = refl; of_links = refl; of_pending = refl; of_texts = refl; of_bytes = refl }

-- numbers of more than 32 bits: the structs aren't packed, but each has its array packed
wide_identified : AreBounds true (identified 40) 200 40 27 39 40 13 390
unfolding capacity_bound least_width identified
wide_identified =
    record { of_nodes = refl; of_families = refl; of_links = refl; of_pending = refl; of_texts = refl; of_bytes = refl }
