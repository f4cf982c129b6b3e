-- A tighter bound on the steps of a mapping on m bits. What a value takes is cut in two: what it takes wherever it is,
-- and what it takes for each of its bits. Elements of an array share the bits of the file, so the second part isn't
-- multiplied by their number. Attempts that are dropped may have read bits that are read again, so all that they may
-- take belongs to the first part of what is around them.
use Rattle.std.specs.Prelude.{ℕ, zero, suc, ◌+◌, ◌-◌, ◌*◌, ◌/◌, ◌^◌, min, max, nat_lt, if◌then◌else◌, ◌||◌, Option, Some, None}
use Rattle.pickle_types.specs.Types.{Term, Number, Bound, Unbounded, ByCount, BySize, PokeType, IntegerOf, OffsetOf, StringOf, ArrayOf, StructOf, IntegralOf, UnionOf, Fields, NoFields, FieldThen, Parts, NoParts, PartThen, optional_weight, bound_weight}
use Rattle.pickle_types.specs.Bounds.{has_label, where_present, cost, room}

-- Steps are counted in grains, so that the steps for a bit are a whole number of them. A byte of a string takes a step,
-- so an octet of grains for each bit.
unfoldable pub octet : ℕ
octet = 2 ^ 29

abbrev pub grain : ℕ
grain = 8 * octet

-- x / y, or x from 2^128 on, where bounds aren't known exactly
abbrev pub divided : (x y : ℕ) → ℕ
divided x y = if nat_lt x (2 ^ 128) then x / y else x

-- x - y, or 0 where y is greater; x from 2^128 on
abbrev pub reduced : (x y : ℕ) → ℕ
reduced x y = if nat_lt x (2 ^ 128) then x - y else x

-- the number that an expression is
abbrev pub number_of : Term → Option ℕ
number_of (Number type value) = Some value
number_of e = None

-- the number of elements, where the bound of an array is a number
abbrev pub constant_count : Bound → Option ℕ
constant_count Unbounded = None
constant_count (ByCount e) = number_of e
constant_count (BySize e) = None

-- what so many elements have, 0 where their number isn't constant
abbrev pub of_constant : Option ℕ → ℕ → ℕ
of_constant None x = 0
of_constant (Some n) x = n * x

-- what an element of such a width takes for each bit, 0 where their number is constant
abbrev pub of_others : Option ℕ → (width x : ℕ) → ℕ
of_others None width x = divided x (max 1 width) + 1
of_others (Some n) width x = 0

-- what the elements of an array take for each bit, from what an element has
abbrev pub array_rate : Bound → (width own fixed rate : ℕ) → ℕ
array_rate bound width own fixed rate =
    rate + of_others (constant_count bound) width (reduced (grain + fixed) (rate * own))

-- what an array without a bound has, and what one with a bound has
abbrev pub if_unbounded : Bound → ℕ → ℕ
if_unbounded Unbounded x = x
if_unbounded (ByCount e) x = 0
if_unbounded (BySize e) x = 0

abbrev pub if_bounded : Bound → ℕ → ℕ
if_bounded Unbounded x = 0
if_bounded (ByCount e) x = x
if_bounded (BySize e) x = x

-- what an alternative has after which there is another one
abbrev pub if_followed : Parts → ℕ → ℕ
if_followed NoParts x = 0
if_followed (PartThen name order type constraint rest) x = x

-- what a part with a constraint has
abbrev pub if_tested : Option Term → ℕ → ℕ
if_tested None x = 0
if_tested (Some e) x = x

-- the grains x before a miss of n grains; there is none where n is 0
abbrev pub before : (x n : ℕ) → ℕ
before x zero = 0
before x (suc n) = x + suc n

-- the grains of two misses, one after the other
abbrev pub both_missed : ℕ → ℕ → ℕ
both_missed zero n = 0
both_missed (suc x) n = before (suc x) n

-- the grains of a part that misses, itself or by its constraint
abbrev pub part_missed : Option Term → (missed value : ℕ) → ℕ
part_missed constraint missed value = max missed (if_tested constraint value)

unfoldable mutual
  -- how many bits a value of the type has at least, elements of a constant number included
  pub width : PokeType → ℕ
  width (IntegerOf type) = type.width
  width (OffsetOf type unit) = type.width
  width StringOf = 8
  width (ArrayOf element bound) = of_constant (constant_count bound) (width element)
  width (StructOf name pinned fields) =
      if pinned || has_label fields then greatest_field fields else sum_of_fields fields
  width (IntegralOf name type fields) = type.width
  width (UnionOf name alternatives) = least_part alternatives

  pub sum_of_fields : Fields → ℕ
  sum_of_fields NoFields = 0
  sum_of_fields (FieldThen name order type constraint label condition rest) =
      where_present condition (width type) + sum_of_fields rest

  pub greatest_field : Fields → ℕ
  greatest_field NoFields = 0
  greatest_field (FieldThen name order type constraint label condition rest) =
      max (where_present condition (width type)) (greatest_field rest)

  pub least_part : Parts → ℕ
  least_part NoParts = 0
  least_part (PartThen name order type constraint NoParts) = width type
  least_part (PartThen name order type constraint (PartThen name' order' type' constraint' rest)) =
      min (width type) (least_part (PartThen name' order' type' constraint' rest))

unfoldable mutual
  -- how many bits of a value are surely of no elements, so that no rate is taken for them
  pub own : PokeType → ℕ
  own (IntegerOf type) = type.width
  own (OffsetOf type unit) = type.width
  own StringOf = 0
  own (ArrayOf element bound) = of_constant (constant_count bound) (own element)
  own (StructOf name pinned fields) = if pinned || has_label fields then 0 else fields_own fields
  own (IntegralOf name type fields) = type.width
  own (UnionOf name alternatives) = parts_own alternatives

  pub fields_own : Fields → ℕ
  fields_own NoFields = 0
  fields_own (FieldThen name order type constraint label condition rest) =
      where_present condition (own type) + fields_own rest

  pub parts_own : Parts → ℕ
  parts_own NoParts = 0
  parts_own (PartThen name order type constraint NoParts) = own type
  parts_own (PartThen name order type constraint (PartThen name' order' type' constraint' rest)) =
      min (own type) (parts_own (PartThen name' order' type' constraint' rest))

unfoldable mutual
  -- the grains that a value takes wherever it is
  pub fixed : PokeType → ℕ → ℕ
  fixed (IntegerOf type) m = grain
  fixed (OffsetOf type unit) m = grain
  fixed StringOf m = grain
  fixed (ArrayOf element bound) m =
      grain * (1 + bound_weight bound) + of_constant (constant_count bound) (grain + fixed element m)
      + if_unbounded bound (grain + attempt element m + rate element m * m)
  fixed (StructOf name pinned fields) m = grain + fields_fixed fields m
  fixed (IntegralOf name type fields) m = grain + digits_fixed fields m
  fixed (UnionOf name alternatives) m = grain + parts_fixed alternatives m

  -- the grains that a value takes for each of its bits but its own ones
  pub rate : PokeType → ℕ → ℕ
  rate (IntegerOf type) m = 0
  rate (OffsetOf type unit) m = 0
  rate StringOf m = octet
  rate (ArrayOf element bound) m = array_rate bound (width element) (own element) (fixed element m) (rate element m)
  rate (StructOf name pinned fields) m =
      if pinned || has_label fields then sum_of_rates fields m else greatest_rate fields m
  rate (IntegralOf name type fields) m = 0
  rate (UnionOf name alternatives) m = parts_rate alternatives m

  -- the grains that an attempt takes, besides the rate for each bit up to the end of the file
  pub attempt : PokeType → ℕ → ℕ
  attempt (IntegerOf type) m = grain
  attempt (OffsetOf type unit) m = grain
  attempt StringOf m = 2 * grain
  attempt (ArrayOf element bound) m =
      grain * (1 + bound_weight bound) + of_constant (constant_count bound) (grain + fixed element m)
      + (grain + attempt element m + if_unbounded bound (rate element m * m))
  attempt (StructOf name pinned fields) m = grain + fields_attempt fields m
  attempt (IntegralOf name type fields) m = grain + digits_fixed fields m
  attempt (UnionOf name alternatives) m = grain + parts_attempt alternatives m

  -- all grains that an attempt takes after which a union tries its next alternative; 0 where there is none
  pub missed : PokeType → ℕ → ℕ
  missed (IntegerOf type) m = 0
  missed (OffsetOf type unit) m = 0
  missed StringOf m = 0
  missed (ArrayOf element bound) m =
      before (grain * (2 + bound_weight bound) + of_constant (constant_count bound) (grain + fixed element m)
      + array_rate bound (width element) (own element) (fixed element m) (rate element m) * m)
      (if_bounded bound (missed element m))
  missed (StructOf name pinned fields) m = before grain (fields_missed fields m)
  missed (IntegralOf name type fields) m = before grain (digits_missed fields m)
  missed (UnionOf name alternatives) m = before grain (parts_missed alternatives m)

  pub fields_fixed : Fields → ℕ → ℕ
  fields_fixed NoFields m = 0
  fields_fixed (FieldThen name order type constraint label condition rest) m =
      grain * (1 + (optional_weight condition + optional_weight label + optional_weight constraint))
      + (fixed type m + fields_fixed rest m)

  -- of fields that may overlap each takes its rate for each bit
  pub sum_of_rates : Fields → ℕ → ℕ
  sum_of_rates NoFields m = 0
  sum_of_rates (FieldThen name order type constraint label condition rest) m = rate type m + sum_of_rates rest m

  pub greatest_rate : Fields → ℕ → ℕ
  greatest_rate NoFields m = 0
  greatest_rate (FieldThen name order type constraint label condition rest) m = max (rate type m) (greatest_rate rest m)

  -- the last field that is tried may fail
  pub fields_attempt : Fields → ℕ → ℕ
  fields_attempt NoFields m = 0
  fields_attempt (FieldThen name order type constraint label condition rest) m =
      grain * (1 + (optional_weight condition + optional_weight label + optional_weight constraint))
      + max (attempt type m) (fixed type m + fields_attempt rest m)

  pub fields_missed : Fields → ℕ → ℕ
  fields_missed NoFields m = 0
  fields_missed (FieldThen name order type constraint label condition rest) m =
      max (before (grain * (1 + (optional_weight condition + optional_weight label + optional_weight constraint)))
      (part_missed constraint (missed type m) (fixed type m + rate type m * m)))
      (before (grain * (1 + (optional_weight condition + optional_weight label + optional_weight constraint))
      + (fixed type m + rate type m * m)) (fields_missed rest m))

  -- the fields of an integral struct
  pub digits_fixed : Parts → ℕ → ℕ
  digits_fixed NoParts m = 0
  digits_fixed (PartThen name order type constraint rest) m =
      grain * (1 + optional_weight constraint) + (fixed type m + digits_fixed rest m)

  pub digits_missed : Parts → ℕ → ℕ
  digits_missed NoParts m = 0
  digits_missed (PartThen name order type constraint rest) m =
      max (before (grain * (1 + optional_weight constraint)) (part_missed constraint (missed type m) (fixed type m)))
      (before (grain * (1 + optional_weight constraint) + fixed type m) (digits_missed rest m))

  -- the alternatives before the one that fits are dropped attempts
  pub parts_fixed : Parts → ℕ → ℕ
  parts_fixed NoParts m = 0
  parts_fixed (PartThen name order type constraint rest) m =
      grain * (1 + optional_weight constraint)
      + max (fixed type m) (if_followed rest
      (before (parts_fixed rest m) (part_missed constraint (missed type m) (fixed type m + rate type m * m))))

  pub parts_rate : Parts → ℕ → ℕ
  parts_rate NoParts m = 0
  parts_rate (PartThen name order type constraint rest) m = max (rate type m) (parts_rate rest m)

  pub parts_attempt : Parts → ℕ → ℕ
  parts_attempt NoParts m = 0
  parts_attempt (PartThen name order type constraint rest) m =
      grain * (1 + optional_weight constraint)
      + max (attempt type m)
      (before (parts_attempt rest m) (part_missed constraint (missed type m) (fixed type m + rate type m * m)))

  -- all of them miss; 1 where none is left, which is a miss too
  pub parts_missed : Parts → ℕ → ℕ
  parts_missed NoParts m = 1
  parts_missed (PartThen name order type constraint rest) m =
      before (grain * (1 + optional_weight constraint))
      (both_missed (parts_missed rest m)
      (part_missed constraint (missed type m) (fixed type m + rate type m * m)))

-- a bound on the steps of a mapping on m bits, which is never above `cost`
unfoldable pub tight : PokeType → ℕ → ℕ
tight type m = min (cost type m) (divided (attempt type m + rate type m * m) grain)

-- a bound on the slots of each kind: each slot that a mapping fills was paid by a step
unfoldable pub tight_slots : PokeType → ℕ → ℕ
tight_slots type m = min (room type m) (tight type m)
