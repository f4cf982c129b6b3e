-- A type takes no fewer slots over more bits.
use Rattle.std.proofs.Common.{◌≡◌, ℕ, ◌+◌, ◌*◌, ◌/◌, ◌<◌, ◌≤◌, max, true, false, arith}
use Rattle.std.specs.Prelude.{nat_le}
use Rattle.std.proofs.Math.Nat.{mul-le-mul, div-mul-le_self}
use Rattle.std.proofs.lemmas.Bool.{leb-true, leb-false, le-leb, lt-leb}
use Rattle.std.proofs.lemmas.Nat.{le-div}
use Rattle.pickle_types.specs.Bounds.{count_of, least_width, room, fields_room, parts_room, greatest_room}
use Rattle.pickle_types.specs.Types.{PokeType, IntegerOf, OffsetOf, StringOf, ArrayOf, StructOf, IntegralOf, UnionOf, Fields, NoFields, FieldThen, Parts, NoParts, PartThen}

quotient_more : (m n k : ℕ) → 0 < k → m ≤ n → m / k ≤ n / k
quotient_more m n k some le =
    le-div (m / k) n k some (let own = div-mul-le_self m k in omega (arith, own, le))

array_more : (m n w a b : ℕ) → m ≤ n → a ≤ b → 1 + count_of m w * (1 + a) ≤ 1 + count_of n w * (1 + b)
array_more m n w a b le more =
    let some : 0 < max 1 w = omega arith in
    let q = quotient_more m n (max 1 w) some le in
    let count : count_of m w ≤ count_of n w = omega (arith, q) in
    let each : 1 + a ≤ 1 + b = omega (arith, more) in
    let p = mul-le-mul count each in
    omega (arith, p)

mutual
  unfolding room fields_room parts_room greatest_room

  pub room_more : (type : PokeType) (m n : ℕ) → m ≤ n → room type m ≤ room type n
  room_more (IntegerOf type) m n le = omega arith
  room_more (OffsetOf type unit) m n le = omega arith
  room_more StringOf m n le = let q = quotient_more m n 8 (omega arith) le in omega (arith, q)
  room_more (ArrayOf element bound) m n le =
      array_more m n (least_width element) (room element m) (room element n) le (room_more element m n le)
  room_more (StructOf name pinned fields) m n le = let r = fields_more fields m n le in omega (arith, r)
  room_more (IntegralOf name type fields) m n le = let r = parts_more fields m n le in omega (arith, r)
  room_more (UnionOf name alternatives) m n le = let r = greatest_more alternatives m n le in omega (arith, r)

  fields_more : (fields : Fields) (m n : ℕ) → m ≤ n → fields_room fields m ≤ fields_room fields n
  fields_more NoFields m n le = omega arith
  fields_more (FieldThen name order type constraint label condition rest) m n le =
      let own = room_more type m n le in
      let r = fields_more rest m n le in
      omega (arith, own, r)

  parts_more : (parts : Parts) (m n : ℕ) → m ≤ n → parts_room parts m ≤ parts_room parts n
  parts_more NoParts m n le = omega arith
  parts_more (PartThen name order type constraint rest) m n le =
      let own = room_more type m n le in
      let r = parts_more rest m n le in
      omega (arith, own, r)

  greatest_more : (parts : Parts) (m n : ℕ) → m ≤ n → greatest_room parts m ≤ greatest_room parts n
  greatest_more NoParts m n le = omega arith
  greatest_more (PartThen name order type constraint rest) m n le =
      let own = room_more type m n le in
      let r = greatest_more rest m n le in
      omega (arith, own, r)

-- what is enough for more bits is enough for fewer
pub enough_for_fewer : (type : PokeType) (m n capacity : ℕ) → nat_le (room type n) capacity ≡ true → m ≤ n →
    nat_le (room type m) capacity ≡ true
enough_for_fewer type m n capacity e le =
    let more = room_more type m n le in
    let fits = leb-true (room type n) capacity e in
    le-leb (room type m) capacity (omega (arith, more, fits))

-- what is too little for fewer bits is too little for more
pub lacking_for_more : (type : PokeType) (m n capacity : ℕ) → nat_le (room type m) capacity ≡ false → m ≤ n →
    nat_le (room type n) capacity ≡ false
lacking_for_more type m n capacity e le =
    let more = room_more type m n le in
    let lacks = leb-false (room type m) capacity e in
    lt-leb (room type n) capacity (omega (arith, more, lacks))
