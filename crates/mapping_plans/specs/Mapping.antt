-- The plan of a mapping: its steps, values and reads at a place for a type.
use Rattle.std.specs.Prelude.{ℕ, zero, suc, ◌+◌, ◌-◌, ◌/◌, max, List, [], ◌∷◌, ◌++◌, Option, Some, None, Result, Ok, Err, Bool, nat_eq, nat_le, if◌then◌else◌}
use Rattle.bit_space.specs.declared.order.Order.{Order}
use Rattle.bit_space.specs.declared.order.Order.TheVariants.{Big}
use Rattle.pickle_types.specs.declared.integer.IntegerType.{IntegerType}
use Rattle.pickle_types.specs.Types.{Term, PokeType, IntegerOf, OffsetOf, StringOf, ArrayOf, StructOf, IntegralOf, UnionOf, Fields, NoFields, FieldThen, Parts, NoParts, PartThen}
use Rattle.pickle_types.specs.Bounds.{least_width, count_of}
use Rattle.pickle_meaning.specs.declared.extent.Extent.{Extent}
use Rattle.pickle_meaning.specs.declared.faults.MapFaultKind.TheVariants as fault
use Rattle.pickle_meaning.specs.Values.{Naming, Value, end_of, text_value, text_level, Levels, pushed, opened, outer_of}
use Rattle.pickle_meaning.specs.Clauses.{FaultAt, constraint, clause_steps, condition, field_start, label_steps, extent_of, bound_steps, is_due, is_met, ends_before, misses}
use Rattle.pickle_meaning.specs.Means.{ordered, number_type, width_in, first_digits, field_names, part_names, integer_value, offset_value, array_value, struct_value, Taken, union_value, Opened}
use Rattle.value_store.specs.Moves.{Move, Clears, Places, Leaves, Closes, Writes, Ends, ClosesRow}
use Rattle.value_store.specs.Layouts.{packs_value}
use Rattle.mapping_plans.specs.Plan.{Plan, Ended, Tick, Made, Read, and_then, after, then_ok, framed, in_row}
use Rattle.mapping_plans.specs.Rows.{Row, Apart, Numbers, Records, Values, row_of}

-- a mapping that starts past the last bit is an End fault, in no steps
unfoldable pub from_inside : {A : Type 0} → (m s : ℕ) → Plan (Result A FaultAt) → Plan (Result A FaultAt)
from_inside m s p = if nat_le s m then p else Ended (Err (fault.End, s))

-- a value is made in this way, and is added to the innermost of these frames
abbrev pub makes : Move → Levels → Value → Plan (Result Value FaultAt)
makes move levels v = Made 1 move (pushed levels (Some v)) (Ended (Ok v))

-- the innermost frame is closed, and a value is made of it
abbrev pub closes : Move → (Levels → Value) → Levels → Plan (Result Value FaultAt)
closes move make inside = makes move (outer_of inside) (make inside)

-- the constraint of a value, which is in its frame already
unfoldable pub constrained : Option Term → Levels → (place : ℕ) → Value → Plan (Result Value FaultAt)
constrained c levels place v =
    then_ok (after (clause_steps c (pushed levels (Some v))) (constraint c (pushed levels (Some v)) place))
    (λ u. Ended (Ok v))

unfoldable mutual
  -- an unsigned number, as an integer, an offset or an integral struct that starts at s, after its own first step
  pub number_plan : PokeType → (n : ℕ) → Levels → (s : ℕ) → Plan (Result Value FaultAt)
  number_plan (IntegerOf type) n levels s = makes Places levels (integer_value type n s)
  number_plan (OffsetOf type unit) n levels s = makes Places levels (offset_value type unit n s)
  number_plan StringOf n levels s = Ended (Err (fault.Absent, s))
  number_plan (ArrayOf element bound) n levels s = Ended (Err (fault.Absent, s))
  number_plan (StructOf name pinned _) n levels s = Ended (Err (fault.Absent, s))
  number_plan (IntegralOf name type fields) n levels s =
      framed levels (then_ok (digits_plan fields n type.width (opened levels) s)
      (closes Closes (struct_value name (part_names fields) s (s + type.width))))
  number_plan (UnionOf name alternatives) n levels s = Ended (Err (fault.Absent, s))

  -- the fields of an integral struct from here on
  pub digits_plan : Parts → (n left : ℕ) → Levels → (s : ℕ) → Plan (Result Levels FaultAt)
  digits_plan NoParts n left levels s = Ended (Ok levels)
  digits_plan (PartThen name order ty c rest) n left levels s =
      Tick (then_ok (then_ok (Tick (number_plan ty (first_digits n left (width_in (number_type ty))) levels s))
      (constrained c levels s)) (λ v. digits_plan rest n (left - width_in (number_type ty)) (pushed levels (Some v)) s))

-- a type that is read as one number
unfoldable pub read_plan : (m : ℕ) → PokeType → IntegerType → Order → Levels → (s : ℕ) → Plan (Result Value FaultAt)
read_plan m ty type order levels s =
    Tick (if nat_le (s + type.width) m then Read s type.width order (λ n. number_plan ty n levels s)
    else Ended (Err (fault.End, s)))

-- what comes after a byte of a string that began at s: its end, or the bytes from there on
unfoldable pub after_byte : (List ℕ → Plan (Result Value FaultAt)) → List ℕ → Levels → (s end : ℕ) → (byte : ℕ) →
    Plan (Result Value FaultAt)
after_byte next bytes levels s end zero = makes Ends levels (text_value bytes s end)
after_byte next bytes levels s end (suc b) =
    Made 1 Writes (text_level (bytes ++ suc b ∷ []) s levels) (next (bytes ++ suc b ∷ []))

-- The bytes of a string that began at s, from `place` on; at most n are tried. With n as m / 8 + 1 that is enough for
-- all, and the first line is never reached.
unfoldable pub text_plan : (m n : ℕ) → List ℕ → Levels → (s place : ℕ) → Plan (Result Value FaultAt)
text_plan m zero bytes levels s place = Ended (Err (fault.End, s))
text_plan m (suc n) bytes levels s place =
    Tick (if nat_le (place + 8) m
    then Read place 8 Big (after_byte (λ more. text_plan m n more levels s (place + 8)) bytes levels s (place + 8))
    else Ended (Err (fault.End, s)))

-- how an array is closed whose elements are kept in such a way
abbrev pub array_move : Row → Move
array_move Apart = Closes
array_move (Numbers width) = ClosesRow
array_move (Records widths) = ClosesRow
array_move (Values stride) = ClosesRow

-- a value that was added to the innermost of these frames is packed into the array there
abbrev pub packs_last : Levels → Value → Plan (Result Value FaultAt)
packs_last levels v = Made 0 (packs_value v) (pushed levels (Some v)) (Ended (Ok v))

-- an element is packed after it was mapped, where it is kept as a value of fixed layout
abbrev pub then_packed : Row → Levels → Plan (Result Value FaultAt) → Plan (Result Value FaultAt)
then_packed Apart levels p = p
then_packed (Numbers width) levels p = p
then_packed (Records widths) levels p = p
then_packed (Values stride) levels p = then_ok p (packs_last levels)

-- the plan of a type, as that of an array's element
abbrev pub element_plan : PokeType → (Levels → ℕ → Plan (Result Value FaultAt)) → Levels → ℕ →
    Plan (Result Value FaultAt)
element_plan ty p levels place = then_packed (row_of ty) levels (in_row (row_of ty) (p levels place))

-- what comes after an element: the array continues after it, or ends before it
unfoldable pub after_element : Extent → (Levels → ℕ → Plan (Result Opened FaultAt)) → Levels → (place : ℕ) →
    Result Value FaultAt → Plan (Result Opened FaultAt)
after_element extent next levels place (Ok v) =
    if nat_eq (end_of v) place then Ended (Err (fault.NoBits, place)) else next (pushed levels (Some v)) (end_of v)
after_element extent next levels place (Err f) =
    if ends_before extent f.0 then Ended (Ok (levels, place)) else Ended (Err f)

-- The elements of an array from s, after the first i; at most n are tried. Each takes at least its type's least width,
-- and at least one bit. With n as one more than the number of such elements that fit in m bits, the first line is never
-- reached.
unfoldable pub elements_plan : (element : Levels → ℕ → Plan (Result Value FaultAt)) → (m s : ℕ) → Extent → (n i : ℕ) →
    Levels → (place : ℕ) → Plan (Result Opened FaultAt)
elements_plan element m s extent zero i levels place = Ended (Err (fault.NoBits, place))
elements_plan element m s extent (suc n) i levels place =
    if is_due extent m s i place then Tick
    (and_then (element levels place) (after_element extent (elements_plan element m s extent n (i + 1)) levels place))
    else (if is_met extent s place then Ended (Ok (levels, place)) else Ended (Err (fault.Bounds, s)))

abbrev pub array_closes : PokeType → (s : ℕ) → Opened → Plan (Result Value FaultAt)
array_closes element s r = closes (array_move (row_of element)) (array_value s r.1) r.0

abbrev pub struct_closes : Naming → List Naming → (s : ℕ) → Opened → Plan (Result Value FaultAt)
struct_closes name names s r = closes Closes (struct_value name names s r.1) r.0

abbrev pub union_closes : Naming → Levels → (s : ℕ) → Taken → Plan (Result Value FaultAt)
union_closes name levels s t = makes Closes levels (union_value name s t)

-- what comes after an attempt in these frames: the union has that alternative, or the next one is tried
unfoldable pub after_attempt : Levels → Plan (Result Taken FaultAt) → (index : ℕ) → Naming → Result Value FaultAt →
    Plan (Result Taken FaultAt)
after_attempt levels next index name (Ok v) = Ended (Ok (record { index = index; name = name; value = v }))
after_attempt levels next index name (Err f) = if misses f.0 then Made 0 Clears levels next else Ended (Err f)

unfoldable mutual
  -- a mapping of the type at bit s of m
  pub plan : (m : ℕ) → PokeType → Order → Levels → (s : ℕ) → Plan (Result Value FaultAt)
  plan m (IntegerOf type) order levels s = from_inside m s (read_plan m (IntegerOf type) type order levels s)
  plan m (OffsetOf type unit) order levels s = from_inside m s (read_plan m (OffsetOf type unit) type order levels s)
  plan m StringOf order levels s = from_inside m s (Tick (framed levels (text_plan m (m / 8 + 1) [] levels s s)))
  plan m (ArrayOf element bound) order levels s =
      from_inside m s (Tick (then_ok (after (bound_steps bound levels) (extent_of bound levels s)) (λ extent.
      framed levels (then_ok (elements_plan (element_plan element (plan m element order)) m s extent
      (count_of m (least_width element)) 0 (opened levels) s) (array_closes element s)))))
  plan m (StructOf name pinned fields) order levels s =
      from_inside m s (Tick (framed levels
      (then_ok (fields_plan m pinned s fields order (opened levels) s s) (struct_closes name (field_names fields) s))))
  plan m (IntegralOf name type fields) order levels s =
      from_inside m s (read_plan m (IntegralOf name type fields) type order levels s)
  plan m (UnionOf name alternatives) order levels s =
      from_inside m s (Tick (framed levels
      (then_ok (alternatives_plan m alternatives 0 order (opened levels) s) (union_closes name levels s))))

  pub fields_plan : (m : ℕ) → (pinned : Bool) → (s : ℕ) → Fields → Order → Levels → (behind top : ℕ) →
      Plan (Result Opened FaultAt)
  fields_plan m pinned s NoFields order levels behind top = Ended (Ok (levels, top))
  fields_plan m pinned s (FieldThen name set ty c label when rest) order levels behind top =
      Tick (then_ok (after (clause_steps when levels) (condition when levels s)) (λ there.
      if there then then_ok (after (label_steps pinned label levels) (field_start pinned label levels s behind)) (λ p.
      then_ok (then_ok (plan m ty (ordered set order) levels p) (constrained c levels p))
      (λ v. fields_plan m pinned s rest order (pushed levels (Some v)) (end_of v) (max top (end_of v))))
      else Made 0 Leaves (pushed levels None) (fields_plan m pinned s rest order (pushed levels None) behind top)))

  pub alternatives_plan : (m : ℕ) → Parts → (index : ℕ) → Order → Levels → (s : ℕ) → Plan (Result Taken FaultAt)
  alternatives_plan m NoParts index order levels s = Ended (Err (fault.Constraint, s))
  alternatives_plan m (PartThen name set ty c rest) index order levels s =
      Tick (and_then (then_ok (plan m ty (ordered set order) levels s) (constrained c levels s))
      (after_attempt levels (alternatives_plan m rest (index + 1) order levels s) index name))
