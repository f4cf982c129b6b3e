-- The part in which the fault arises that a type means on a file's bits: the type itself, or a part of it to which a
-- path leads.
use Rattle.std.specs.Prelude.{◌≡◌, ℕ, ◌+◌, ◌-◌, ◌<◌, ◌≤◌, length, Bool, true, false, List, [], ◌∷◌, Option, Some, None, Ok, Err}
use Rattle.pickle_tree.specs.declared.tree.ByteOrder.{ByteOrder}
use Rattle.pickle_types.specs.declared.integer.IntegerType.{IntegerType}
use Rattle.pickle_types.specs.Types.{Term, Bound, PokeType, StringOf, ArrayOf, StructOf, IntegralOf, UnionOf, Fields, FieldThen, Parts, NoParts, PartThen}
use Rattle.bit_space.specs.declared.order.Order.{Order}
use Rattle.pickle_meaning.specs.declared.extent.Extent.{Extent}
use Rattle.pickle_meaning.specs.declared.faults.MapFaultKind.TheVariants as fault
use Rattle.pickle_meaning.specs.Numbers.{number_at}
use Rattle.pickle_meaning.specs.Values.{Naming, Value, end_of, Levels, pushed, opened}
use Rattle.pickle_meaning.specs.Clauses.{FaultAt, constraint, condition, field_start, extent_of, is_due, is_met, ends_before, misses}
use Rattle.pickle_meaning.specs.Means.{ordered, number_type, width_in, first_digits, NumberMeans, Run, Means, Elements, PartMeans}

-- A path from a type to a part of it: the place of the part at each step, from 0. The place of an element is its
-- number, that of a field or an alternative its number among the declared ones.
abbrev pub Path : Type 0
Path = List ℕ

-- The first i fields of an integral struct at s are values whose constraints hold. They lead from all its fields,
-- `width` binary digits and these frames to the fields, digits and frames after them.
pub data DigitsBefore (n s : ℕ) (fields : Parts) (width : ℕ) (levels : Levels) : (i : ℕ) → Parts → (left : ℕ) →
    Levels → Type 0 where
  no_digits_before : DigitsBefore n s fields width levels 0 fields width levels
  digits_before : {name : Naming} {order : Option ByteOrder} {ty : PokeType} {c : Option Term} {rest : Parts}
      {i left k j : ℕ} {inside : Levels} {v : Value}
      → DigitsBefore n s fields width levels i (PartThen name order ty c rest) left inside
      → NumberMeans ty (first_digits n left (width_in (number_type ty))) inside s (Ok v) k j
      → constraint c (pushed inside (Some v)) s ≡ Ok tt
      → DigitsBefore n s fields width levels (i + 1) rest (left - width_in (number_type ty)) (pushed inside (Some v))

mutual
  -- The fault that an unsigned number means, as a type that starts at s, arises in the part of it to which the path
  -- leads.
  pub data NumberArises : PokeType → (n : ℕ) → Levels → (s : ℕ) → FaultAt → Path → Type 0 where
    -- the type isn't read as a number
    is_no_number : {ty : PokeType} {n : ℕ} {levels : Levels} {s : ℕ}
        → number_type ty ≡ None
        → NumberArises ty n levels s (fault.Absent, s) []
    -- a field of an integral struct
    in_digits : {name : Naming} {type : IntegerType} {fields : Parts} {n : ℕ} {levels : Levels} {s : ℕ}
        {f : FaultAt} {path : Path}
        → DigitsArise fields n type.width (opened levels) s f path
        → NumberArises (IntegralOf name type fields) n levels s f path

  -- The fault of the fields of an integral struct arises in one of them, after i fields that are values.
  pub data DigitsArise : Parts → (n width : ℕ) → Levels → (s : ℕ) → FaultAt → Path → Type 0 where
    -- its constraint is 0 or has a fault
    digits_constraint : {name : Naming} {order : Option ByteOrder} {ty : PokeType} {c : Option Term}
        {fields rest : Parts} {n width s i left k j : ℕ} {levels inside : Levels} {v : Value} {f : FaultAt}
        → DigitsBefore n s fields width levels i (PartThen name order ty c rest) left inside
        → NumberMeans ty (first_digits n left (width_in (number_type ty))) inside s (Ok v) k j
        → constraint c (pushed inside (Some v)) s ≡ Err f
        → DigitsArise fields n width levels s f (i ∷ [])
    -- it has a fault itself
    digits_inside : {name : Naming} {order : Option ByteOrder} {ty : PokeType} {c : Option Term} {fields rest : Parts}
        {n width s i left : ℕ} {levels inside : Levels} {f : FaultAt} {path : Path}
        → DigitsBefore n s fields width levels i (PartThen name order ty c rest) left inside
        → NumberArises ty (first_digits n left (width_in (number_type ty))) inside s f path
        → DigitsArise fields n width levels s f (i ∷ path)

-- The first i fields of a struct at s are absent, or values whose constraints hold. They lead from all its fields and
-- these frames to the fields and frames after them; the last present field ended at `behind`.
pub data FieldsBefore (bits : List ℕ) (pinned : Bool) (s : ℕ) (order : Order) (fields : Fields)
    (levels : Levels) : (i : ℕ) → Fields → Levels → (behind : ℕ) → Type 0 where
  no_field_before : FieldsBefore bits pinned s order fields levels 0 fields levels s
  absent_before : {name : Naming} {set : Option ByteOrder} {ty : PokeType} {c label when : Option Term} {rest : Fields}
      {i behind : ℕ} {inside : Levels}
      → FieldsBefore bits pinned s order fields levels i (FieldThen name set ty c label when rest) inside behind
      → condition when inside s ≡ Ok false
      → FieldsBefore bits pinned s order fields levels (i + 1) rest (pushed inside None) behind
  value_before : {name : Naming} {set : Option ByteOrder} {ty : PokeType} {c label when : Option Term} {rest : Fields}
      {i behind p k j : ℕ} {inside : Levels} {v : Value}
      → FieldsBefore bits pinned s order fields levels i (FieldThen name set ty c label when rest) inside behind
      → condition when inside s ≡ Ok true
      → field_start pinned label inside s behind ≡ Ok p
      → PartMeans bits ty c (ordered set order) inside p (Ok v) k j
      → FieldsBefore bits pinned s order fields levels (i + 1) rest (pushed inside (Some v)) (end_of v)

-- The first i alternatives of a union at s don't match. They lead from all its alternatives to those after them.
pub data MissesBefore (bits : List ℕ) (order : Order) (alternatives : Parts) (levels : Levels) (s : ℕ) : (i : ℕ) →
    Parts → Type 0 where
  no_miss_before : MissesBefore bits order alternatives levels s 0 alternatives
  miss_before : {name : Naming} {set : Option ByteOrder} {ty : PokeType} {c : Option Term} {rest : Parts}
      {i k j : ℕ} {f : FaultAt}
      → MissesBefore bits order alternatives levels s i (PartThen name set ty c rest)
      → PartMeans bits ty c (ordered set order) levels s (Err f) k j
      → misses f.0 ≡ true
      → MissesBefore bits order alternatives levels s (i + 1) rest

mutual
  -- The fault that a type means at bit s, in a byte order, arises in the part of it to which the path leads.
  pub data Arises (bits : List ℕ) : PokeType → Order → Levels → (s : ℕ) → FaultAt → Path → Type 0 where
    -- the type itself: it starts past the last bit
    starts_past_end : {ty : PokeType} {order : Order} {levels : Levels} {s : ℕ}
        → length bits < s
        → Arises bits ty order levels s (fault.End, s) []
    -- a number that ends past the last bit
    number_past_end : {ty : PokeType} {type : IntegerType} {order : Order} {levels : Levels} {s : ℕ}
        → s ≤ length bits
        → number_type ty ≡ Some type
        → length bits < s + type.width
        → Arises bits ty order levels s (fault.End, s) []
    -- a string with no byte 0 before the last bit
    string_past_end : {order : Order} {levels : Levels} {s q : ℕ} {bytes : List ℕ}
        → s ≤ length bits
        → Run bits s bytes q
        → length bits < q + 8
        → Arises bits StringOf order levels s (fault.End, s) []
    -- an array whose bound has a fault or is negative
    bound_of_array : {ty : PokeType} {bound : Bound} {order : Order} {levels : Levels} {s : ℕ} {f : FaultAt}
        → s ≤ length bits
        → extent_of bound levels s ≡ Err f
        → Arises bits (ArrayOf ty bound) order levels s f []
    -- an array, or one of its elements
    in_array : {ty : PokeType} {bound : Bound} {order : Order} {extent : Extent} {levels : Levels} {s : ℕ}
        {f : FaultAt} {path : Path}
        → s ≤ length bits
        → extent_of bound levels s ≡ Ok extent
        → ElementsArise bits ty order s extent (opened levels) f path
        → Arises bits (ArrayOf ty bound) order levels s f path
    -- a field of a struct
    in_struct : {name : Naming} {pinned : Bool} {fields : Fields} {order : Order} {levels : Levels} {s : ℕ}
        {f : FaultAt} {path : Path}
        → s ≤ length bits
        → FieldsArise bits pinned s order fields (opened levels) f path
        → Arises bits (StructOf name pinned fields) order levels s f path
    -- a field of an integral struct, all of whose bits are in the file
    in_number : {ty : PokeType} {type : IntegerType} {order : Order} {levels : Levels} {s : ℕ}
        {f : FaultAt} {path : Path}
        → s ≤ length bits
        → number_type ty ≡ Some type
        → s + type.width ≤ length bits
        → NumberArises ty (number_at bits order s type.width) levels s f path
        → Arises bits ty order levels s f path
    -- a union, or one of its alternatives
    in_union : {name : Naming} {alternatives : Parts} {order : Order} {levels : Levels} {s : ℕ}
        {f : FaultAt} {path : Path}
        → s ≤ length bits
        → AlternativesArise bits order alternatives (opened levels) s f path
        → Arises bits (UnionOf name alternatives) order levels s f path

  -- The fault of an array at s arises in the array itself, or in one of its elements.
  pub data ElementsArise (bits : List ℕ) : PokeType → Order → (s : ℕ) → Extent → Levels → FaultAt → Path → Type 0 where
    -- the last element ends past the array's size
    past_size : {ty : PokeType} {order : Order} {extent : Extent} {levels inside : Levels} {s n pn k j : ℕ}
        → Elements bits ty order s extent 0 levels s n inside pn k j
        → is_due extent (length bits) s n pn ≡ false
        → is_met extent s pn ≡ false
        → ElementsArise bits ty order s extent levels (fault.Bounds, s) []
    -- an element is due and takes no bits, after n that are values
    of_no_bits : {ty : PokeType} {order : Order} {extent : Extent} {levels inside : Levels}
        {s n pn k j k' j' : ℕ} {v : Value}
        → Elements bits ty order s extent 0 levels s n inside pn k j
        → is_due extent (length bits) s n pn ≡ true
        → Means bits ty order inside pn (Ok v) k' j'
        → end_of v ≡ pn
        → ElementsArise bits ty order s extent levels (fault.NoBits, pn) (n ∷ [])
    -- one is due and has a fault before which the array doesn't end, after n that are values
    in_element : {ty : PokeType} {order : Order} {extent : Extent} {levels inside : Levels} {s n pn k j : ℕ}
        {f : FaultAt} {path : Path}
        → Elements bits ty order s extent 0 levels s n inside pn k j
        → is_due extent (length bits) s n pn ≡ true
        → ends_before extent f.0 ≡ false
        → Arises bits ty order inside pn f path
        → ElementsArise bits ty order s extent levels f (n ∷ path)

  -- The fault of a field or an alternative, with its constraint, arises in the part of it to which the path leads.
  pub data PartArises (bits : List ℕ) : PokeType → Option Term → Order → Levels → (s : ℕ) →
      FaultAt → Path → Type 0 where
    -- it is a value whose constraint is 0 or has a fault
    constraint_of_part : {ty : PokeType} {c : Option Term} {order : Order} {levels : Levels} {s k j : ℕ}
        {v : Value} {f : FaultAt}
        → Means bits ty order levels s (Ok v) k j
        → constraint c (pushed levels (Some v)) s ≡ Err f
        → PartArises bits ty c order levels s f []
    -- it has a fault itself
    in_part : {ty : PokeType} {c : Option Term} {order : Order} {levels : Levels} {s : ℕ} {f : FaultAt} {path : Path}
        → Arises bits ty order levels s f path
        → PartArises bits ty c order levels s f path

  -- The fault of the fields of a struct at s arises in one of them, after i fields that are absent or values.
  pub data FieldsArise (bits : List ℕ) : (pinned : Bool) → (s : ℕ) → Order → Fields → Levels →
      FaultAt → Path → Type 0 where
    -- its condition has a fault
    condition_of_field : {pinned : Bool} {name : Naming} {set : Option ByteOrder} {ty : PokeType}
        {c label when : Option Term} {fields rest : Fields} {order : Order} {s i behind : ℕ}
        {levels inside : Levels} {f : FaultAt}
        → FieldsBefore bits pinned s order fields levels i (FieldThen name set ty c label when rest) inside behind
        → condition when inside s ≡ Err f
        → FieldsArise bits pinned s order fields levels f (i ∷ [])
    -- its label has a fault or is negative
    label_of_field : {pinned : Bool} {name : Naming} {set : Option ByteOrder} {ty : PokeType}
        {c label when : Option Term} {fields rest : Fields} {order : Order} {s i behind : ℕ}
        {levels inside : Levels} {f : FaultAt}
        → FieldsBefore bits pinned s order fields levels i (FieldThen name set ty c label when rest) inside behind
        → condition when inside s ≡ Ok true
        → field_start pinned label inside s behind ≡ Err f
        → FieldsArise bits pinned s order fields levels f (i ∷ [])
    -- it has a fault, or its constraint is 0
    in_field : {pinned : Bool} {name : Naming} {set : Option ByteOrder} {ty : PokeType} {c label when : Option Term}
        {fields rest : Fields} {order : Order} {s i behind p : ℕ} {levels inside : Levels} {f : FaultAt} {path : Path}
        → FieldsBefore bits pinned s order fields levels i (FieldThen name set ty c label when rest) inside behind
        → condition when inside s ≡ Ok true
        → field_start pinned label inside s behind ≡ Ok p
        → PartArises bits ty c (ordered set order) inside p f path
        → FieldsArise bits pinned s order fields levels f (i ∷ path)

  -- The fault of a union arises in the union itself, or in one of its alternatives.
  pub data AlternativesArise (bits : List ℕ) : Order → Parts → Levels → (s : ℕ) → FaultAt → Path → Type 0 where
    -- no alternative matches
    none_fits : {alternatives : Parts} {order : Order} {levels : Levels} {s i : ℕ}
        → MissesBefore bits order alternatives levels s i NoParts
        → AlternativesArise bits order alternatives levels s (fault.Constraint, s) []
    -- one has a fault that ends the union, after i that don't match
    in_alternative : {name : Naming} {set : Option ByteOrder} {ty : PokeType} {c : Option Term}
        {alternatives rest : Parts} {order : Order} {levels : Levels} {s i : ℕ} {f : FaultAt} {path : Path}
        → MissesBefore bits order alternatives levels s i (PartThen name set ty c rest)
        → misses f.0 ≡ false
        → PartArises bits ty c (ordered set order) levels s f path
        → AlternativesArise bits order alternatives levels s f (i ∷ path)
