-- Tighter bounds, worked out by hand, against the definition.
use Rattle.std.proofs.Common.{◌≡◌, ℕ, refl, false, true, Some, None}
use Rattle.pickle_types.specs.declared.integer.IntegerType.{IntegerType}
use Rattle.pickle_types.specs.Types.{Term, Number, Name, InUnit, PokeType, IntegerOf, StringOf, ArrayOf, StructOf, UnionOf, Unbounded, ByCount, FieldThen, NoFields, PartThen, NoParts}
use Rattle.pickle_types.specs.Bounds.{cost, room, least_width}
use Rattle.tight_bounds.specs.Tight.{octet, width, own, fixed, tight, tight_slots}

abbrev int_32 : IntegerType
int_32 = record { width = 32; signed = true }

abbrev byte : PokeType
byte = IntegerOf (record { width = 8; signed = false })

abbrev literal : ℕ → Term
literal n = Number int_32 n

abbrev bytes : PokeType
bytes = ArrayOf byte Unbounded

-- an array in an array: 5 steps, 1 / 4 of a step for each bit twice, and 4 for each bit once more
in_an_array : tight (ArrayOf bytes Unbounded) 8000 ≡ 36005
unfolding octet width own fixed tight cost least_width
in_an_array = refl

slots_in_an_array : tight_slots (ArrayOf bytes Unbounded) 8000 ≡ 36005
unfolding octet width own fixed tight tight_slots cost room least_width
slots_in_an_array = refl

-- union { struct { byte a; byte[4] b : 0; } x; int<32> y; string z; }: 19 steps with those of the alternative that is
-- dropped, and one for each byte of the string
with_alternatives : tight (UnionOf None
    (PartThen None None (StructOf None false (FieldThen None None byte None None None
    (FieldThen None None (ArrayOf byte (ByCount (literal 4))) (Some (literal 0)) None None NoFields))) None
    (PartThen None None (IntegerOf int_32) None
    (PartThen None None StringOf None NoParts)))) 8000 ≡ 1019
unfolding octet width own fixed tight cost least_width
with_alternatives = refl

-- struct { byte n; byte[n] d @ 3#B; byte[] e; }: both arrays may have all bytes
with_a_label : tight (StructOf None false (FieldThen None None byte None None None
    (FieldThen None None (ArrayOf byte (ByCount (Name 0 0))) None (Some (InUnit 8 (literal 3))) None
    (FieldThen None None bytes None None None NoFields)))) 8000 ≡ 4012
unfolding octet width own fixed tight cost least_width
with_a_label = refl

-- type I = struct { byte a; string s; byte z : 0; }; type E = struct { byte x; I[] is; }; type T = E[]
abbrev dropped : PokeType
dropped = StructOf None false (FieldThen None None byte None None None (FieldThen None None StringOf None None None
    (FieldThen None None byte (Some (literal 0)) None None NoFields)))

abbrev dropping : PokeType
dropping = ArrayOf (StructOf None false (FieldThen None None byte None None None
    (FieldThen None None (ArrayOf dropped Unbounded) None None None NoFields))) Unbounded

-- with the square of the number of bytes: each element drops one that reads them all
dropping_few : tight dropping 4008 ≡ 260703
unfolding octet width own fixed tight cost least_width
dropping_few = refl

dropping_more : tight dropping 16008 ≡ 4042703
unfolding octet width own fixed tight cost least_width
dropping_more = refl
