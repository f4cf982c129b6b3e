-- What a type means on a file's bits: its outcome at each place, with its steps and its values made.
use Rattle.std.specs.Prelude.{◌≡◌, ℕ, suc, ◌+◌, ◌-◌, ◌/◌, ◌%◌, ◌^◌, ◌<◌, ◌≤◌, max, length, Bool, true, false, List, [], ◌∷◌, Option, Some, None, Result, Ok, Err}
use Rattle.pickle_tree.specs.declared.tree.ByteOrder.{ByteOrder}
use Rattle.pickle_tree.specs.declared.tree.ByteOrder.TheVariants as prefix
use Rattle.pickle_types.specs.declared.integer.IntegerType.{IntegerType}
use Rattle.pickle_types.specs.Types.{Term, Bound, PokeType, IntegerOf, OffsetOf, StringOf, ArrayOf, StructOf, IntegralOf, UnionOf, Fields, NoFields, FieldThen, Parts, NoParts, PartThen}
use Rattle.bit_space.specs.declared.order.Order.{Order}
use Rattle.bit_space.specs.declared.order.Order.TheVariants.{Big, Little}
use Rattle.pickle_meaning.specs.declared.extent.Extent.{Extent}
use Rattle.pickle_meaning.specs.declared.faults.MapFaultKind.TheVariants as fault
use Rattle.pickle_meaning.specs.Numbers.{number_at}
use Rattle.pickle_meaning.specs.Values.{Naming, Label, IntegerLabel, OffsetLabel, ArrayLabel, StructLabel, UnionLabel, Value, Mapped, NoMembers, text_value, end_of, Levels, pushed, opened, top_of, gathered}
use Rattle.pickle_meaning.specs.Arithmetic.{with_sign}
use Rattle.pickle_meaning.specs.Clauses.{FaultAt, constraint, clause_steps, condition, field_start, label_steps, extent_of, bound_steps, is_due, is_met, ends_before, misses}

-- the byte order of a field: its prefix's, or the one around it
abbrev pub ordered : Option ByteOrder → Order → Order
ordered None order = order
ordered (Some prefix.Big) order = Big
ordered (Some prefix.Little) order = Little

-- the integer type of a type that is read as one number
abbrev pub number_type : PokeType → Option IntegerType
number_type (IntegerOf type) = Some type
number_type (OffsetOf type unit) = Some type
number_type StringOf = None
number_type (ArrayOf element bound) = None
number_type (StructOf name pinned _) = None
number_type (IntegralOf name type _) = Some type
number_type (UnionOf name alternatives) = None

-- the width of a field of an integral struct, in bits
abbrev pub width_in : Option IntegerType → ℕ
width_in None = 0
width_in (Some type) = type.width

-- the first `width` of the last `left` binary digits of n
abbrev pub first_digits : (n left width : ℕ) → ℕ
first_digits n left width = n / 2 ^ (left - width) % 2 ^ width

abbrev pub field_names : Fields → List Naming
field_names NoFields = []
field_names (FieldThen name order type c label w rest) = name ∷ field_names rest

abbrev pub part_names : Parts → List Naming
part_names NoParts = []
part_names (PartThen name order type c rest) = name ∷ part_names rest

-- the value that ends at a place, of the members of its frame
abbrev pub value_of : Label → (start end : ℕ) → Levels → Value
value_of label start end inside = Mapped label start end (gathered (top_of inside))

abbrev pub integer_value : IntegerType → (n start : ℕ) → Value
integer_value type n start = Mapped (IntegerLabel (with_sign type n) type) start (start + type.width) NoMembers

abbrev pub offset_value : IntegerType → (unit n start : ℕ) → Value
offset_value type unit n start = Mapped (OffsetLabel (with_sign type n) type unit) start (start + type.width) NoMembers

abbrev pub array_value : (start end : ℕ) → Levels → Value
array_value start end inside = value_of ArrayLabel start end inside

abbrev pub struct_value : Naming → List Naming → (start end : ℕ) → Levels → Value
struct_value name names start end inside = value_of (StructLabel name names) start end inside

-- the alternative of a union that matched
pub record Taken : Type 0 where
  pub index : ℕ
  pub name : Naming
  pub value : Value

abbrev pub union_value : Naming → (start : ℕ) → Taken → Value
union_value name start t = Mapped (UnionLabel name t.index t.name) start (end_of t.value) (gathered (Some t.value ∷ []))

-- the members of a struct so far, and its greatest end
abbrev pub Opened : Type 0
Opened = Levels × ℕ

mutual
  -- What an unsigned number means as an integer, an offset or an integral struct that starts at s: its outcome, its
  -- steps and its values made. No other type is a field of an integral struct in a well typed pickle.
  pub data NumberMeans : PokeType → (n : ℕ) → Levels → (s : ℕ) → Result Value FaultAt → (steps made : ℕ) → Type 0 where
    integer : {type : IntegerType} {n : ℕ} {levels : Levels} {s : ℕ}
        → NumberMeans (IntegerOf type) n levels s (Ok (integer_value type n s)) 1 1
    offset : {type : IntegerType} {unit n : ℕ} {levels : Levels} {s : ℕ}
        → NumberMeans (OffsetOf type unit) n levels s (Ok (offset_value type unit n s)) 1 1
    -- each field is a value whose constraint holds
    integral : {name : Naming} {type : IntegerType} {fields : Parts} {n : ℕ} {levels inside : Levels} {s k j : ℕ}
        → DigitsMean fields n type.width (opened levels) s (Ok inside) k j
        → NumberMeans (IntegralOf name type fields) n levels s
        (Ok (struct_value name (part_names fields) s (s + type.width) inside)) (1 + k) (j + 1)
    -- the first fault is the struct's
    integral_fault : {name : Naming} {type : IntegerType} {fields : Parts} {n : ℕ} {levels : Levels}
        {s k j : ℕ} {f : FaultAt}
        → DigitsMean fields n type.width (opened levels) s (Err f) k j
        → NumberMeans (IntegralOf name type fields) n levels s (Err f) (1 + k) j
    -- the other types aren't read as one number
    no_number : {ty : PokeType} {n : ℕ} {levels : Levels} {s : ℕ}
        → number_type ty ≡ None
        → NumberMeans ty n levels s (Err (fault.Absent, s)) 1 0

  -- The fields of an integral struct from here on. Each is cut from the front of the remaining binary digits, and all
  -- start at s, where the outermost integral struct starts.
  pub data DigitsMean : Parts → (n left : ℕ) → Levels → (s : ℕ) → Result Levels FaultAt →
      (steps made : ℕ) → Type 0 where
    -- no field is left
    no_digits : {n left : ℕ} {levels : Levels} {s : ℕ} → DigitsMean NoParts n left levels s (Ok levels) 0 0
    -- the next field is a value whose constraint holds, and the fields after it have the outcome r
    next_digits : {name : Naming} {order : Option ByteOrder} {ty : PokeType} {c : Option Term} {rest : Parts}
        {n left : ℕ} {levels : Levels} {s k j k' j' : ℕ} {v : Value} {r : Result Levels FaultAt}
        → NumberMeans ty (first_digits n left (width_in (number_type ty))) levels s (Ok v) k j
        → constraint c (pushed levels (Some v)) s ≡ Ok tt
        → DigitsMean rest n (left - width_in (number_type ty)) (pushed levels (Some v)) s r k' j'
        → DigitsMean (PartThen name order ty c rest) n left levels s r
        (1 + k + clause_steps c (pushed levels (Some v)) + k') (j + j')
    -- its constraint is 0 or has a fault
    digits_refused : {name : Naming} {order : Option ByteOrder} {ty : PokeType} {c : Option Term} {rest : Parts}
        {n left : ℕ} {levels : Levels} {s k j : ℕ} {v : Value} {f : FaultAt}
        → NumberMeans ty (first_digits n left (width_in (number_type ty))) levels s (Ok v) k j
        → constraint c (pushed levels (Some v)) s ≡ Err f
        → DigitsMean (PartThen name order ty c rest) n left levels s (Err f)
        (1 + k + clause_steps c (pushed levels (Some v))) j
    -- it has a fault itself
    digits_fault : {name : Naming} {order : Option ByteOrder} {ty : PokeType} {c : Option Term} {rest : Parts}
        {n left : ℕ} {levels : Levels} {s k j : ℕ} {f : FaultAt}
        → NumberMeans ty (first_digits n left (width_in (number_type ty))) levels s (Err f) k j
        → DigitsMean (PartThen name order ty c rest) n left levels s (Err f) (1 + k) j

-- a run of whole bytes from p to q, none of them 0
pub data Run (bits : List ℕ) : (p : ℕ) → List ℕ → (q : ℕ) → Type 0 where
  no_bytes : {p : ℕ} → Run bits p [] p
  next_byte : {p q b : ℕ} {bytes : List ℕ}
      → p + 8 ≤ length bits
      → number_at bits Big p 8 ≡ suc b
      → Run bits (p + 8) bytes q
      → Run bits p (suc b ∷ bytes) q

mutual
  -- at bit s, in a byte order, the type has the outcome r in `steps` steps, with `made` values made
  pub data Means (bits : List ℕ) : PokeType → Order → Levels → (s : ℕ) → Result Value FaultAt →
      (steps made : ℕ) → Type 0 where
    -- a start past the last bit
    past_end : {ty : PokeType} {order : Order} {levels : Levels} {s : ℕ}
        → length bits < s
        → Means bits ty order levels s (Err (fault.End, s)) 0 0
    -- an integer, an offset or an integral struct, all of whose bits are in the file
    number_read : {ty : PokeType} {type : IntegerType} {order : Order} {levels : Levels} {s k j : ℕ}
        {r : Result Value FaultAt}
        → s ≤ length bits
        → number_type ty ≡ Some type
        → s + type.width ≤ length bits
        → NumberMeans ty (number_at bits order s type.width) levels s r k j
        → Means bits ty order levels s r k j
    -- an integer, an offset or an integral struct that ends past the last bit
    number_end : {ty : PokeType} {type : IntegerType} {order : Order} {levels : Levels} {s : ℕ}
        → s ≤ length bits
        → number_type ty ≡ Some type
        → length bits < s + type.width
        → Means bits ty order levels s (Err (fault.End, s)) 1 0
    -- a run of bytes and a byte 0
    string : {order : Order} {levels : Levels} {s q : ℕ} {bytes : List ℕ}
        → s ≤ length bits
        → Run bits s bytes q
        → q + 8 ≤ length bits
        → number_at bits Big q 8 ≡ 0
        → Means bits StringOf order levels s (Ok (text_value bytes s (q + 8))) (1 + length bytes + 1) (length bytes + 1)
    -- a run of bytes with no whole byte after it; the try that finds none is a step
    string_end : {order : Order} {levels : Levels} {s q : ℕ} {bytes : List ℕ}
        → s ≤ length bits
        → Run bits s bytes q
        → length bits < q + 8
        → Means bits StringOf order levels s (Err (fault.End, s)) (1 + length bytes + 1) (length bytes)
    -- the elements between the cut points, and how the array ends after them
    array : {ty : PokeType} {bound : Bound} {order : Order} {extent : Extent} {levels inside : Levels}
        {s n pn k j k' j' : ℕ} {r : Result Value FaultAt}
        → s ≤ length bits
        → extent_of bound levels s ≡ Ok extent
        → Elements bits ty order s extent 0 (opened levels) s n inside pn k j
        → Closing bits ty order s extent n inside pn r k' j'
        → Means bits (ArrayOf ty bound) order levels s r (1 + bound_steps bound levels + k + k') (j + j')
    -- a bound that has a fault or is negative
    bound_fault : {ty : PokeType} {bound : Bound} {order : Order} {levels : Levels} {s : ℕ} {f : FaultAt}
        → s ≤ length bits
        → extent_of bound levels s ≡ Err f
        → Means bits (ArrayOf ty bound) order levels s (Err f) (1 + bound_steps bound levels) 0
    -- all fields are absent or values; the struct ends at their greatest end
    struct : {name : Naming} {pinned : Bool} {fields : Fields} {order : Order} {levels inside : Levels} {s end k j : ℕ}
        → s ≤ length bits
        → FieldsMean bits pinned s fields order (opened levels) s s (Ok (inside, end)) k j
        → Means bits (StructOf name pinned fields) order levels s
        (Ok (struct_value name (field_names fields) s end inside)) (1 + k) (j + 1)
    -- the first fault of a field is the struct's
    struct_fault : {name : Naming} {pinned : Bool} {fields : Fields} {order : Order} {levels : Levels}
        {s k j : ℕ} {f : FaultAt}
        → s ≤ length bits
        → FieldsMean bits pinned s fields order (opened levels) s s (Err f) k j
        → Means bits (StructOf name pinned fields) order levels s (Err f) (1 + k) j
    -- an alternative matches
    union : {name : Naming} {alternatives : Parts} {order : Order} {levels : Levels} {s k j : ℕ} {t : Taken}
        → s ≤ length bits
        → AlternativesMean bits alternatives 0 order (opened levels) s (Ok t) k j
        → Means bits (UnionOf name alternatives) order levels s (Ok (union_value name s t)) (1 + k) (j + 1)
    -- an alternative has a fault that ends the union, or none matches
    union_fault : {name : Naming} {alternatives : Parts} {order : Order} {levels : Levels} {s k j : ℕ} {f : FaultAt}
        → s ≤ length bits
        → AlternativesMean bits alternatives 0 order (opened levels) s (Err f) k j
        → Means bits (UnionOf name alternatives) order levels s (Err f) (1 + k) j

  -- The elements of an array from s between its cut points of number i, at p, and of number n, at pn. Each is due, and
  -- is a value from one cut point to the next, which is greater.
  pub data Elements (bits : List ℕ) : PokeType → Order → (s : ℕ) → Extent → (i : ℕ) → Levels → (p : ℕ) → (n : ℕ) →
      Levels → (pn : ℕ) → (steps made : ℕ) → Type 0 where
    no_more : {ty : PokeType} {order : Order} {extent : Extent} {inside : Levels} {s i p : ℕ}
        → Elements bits ty order s extent i inside p i inside p 0 0
    next_element : {ty : PokeType} {order : Order} {extent : Extent} {levels inside : Levels}
        {s i p n pn k j k' j' : ℕ} {v : Value}
        → is_due extent (length bits) s i p ≡ true
        → Means bits ty order levels p (Ok v) k j
        → p < end_of v
        → Elements bits ty order s extent (i + 1) (pushed levels (Some v)) (end_of v) n inside pn k' j'
        → Elements bits ty order s extent i levels p n inside pn (1 + k + k') (j + j')

  -- how an array from s ends at its last cut point, of number n at pn
  pub data Closing (bits : List ℕ) : PokeType → Order → (s : ℕ) → Extent → (n : ℕ) → Levels → (pn : ℕ) →
      Result Value FaultAt → (steps made : ℕ) → Type 0 where
    -- no element is due, and a size is met
    none_due : {ty : PokeType} {order : Order} {extent : Extent} {inside : Levels} {s n pn : ℕ}
        → is_due extent (length bits) s n pn ≡ false
        → is_met extent s pn ≡ true
        → Closing bits ty order s extent n inside pn (Ok (array_value s pn inside)) 0 1
    -- no element is due, and the last one ends past the size
    beyond_size : {ty : PokeType} {order : Order} {extent : Extent} {inside : Levels} {s n pn : ℕ}
        → is_due extent (length bits) s n pn ≡ false
        → is_met extent s pn ≡ false
        → Closing bits ty order s extent n inside pn (Err (fault.Bounds, s)) 0 0
    -- an element is due, and takes no bits
    no_bits : {ty : PokeType} {order : Order} {extent : Extent} {inside : Levels} {s n pn k j : ℕ} {v : Value}
        → is_due extent (length bits) s n pn ≡ true
        → Means bits ty order inside pn (Ok v) k j
        → end_of v ≡ pn
        → Closing bits ty order s extent n inside pn (Err (fault.NoBits, pn)) (1 + k) j
    -- one is due and has a fault that ends an unbounded array; the element is dropped
    ends_without : {ty : PokeType} {order : Order} {extent : Extent} {inside : Levels} {s n pn k j : ℕ} {f : FaultAt}
        → is_due extent (length bits) s n pn ≡ true
        → Means bits ty order inside pn (Err f) k j
        → ends_before extent f.0 ≡ true
        → Closing bits ty order s extent n inside pn (Ok (array_value s pn inside)) (1 + k) (j + 1)
    -- one is due and has any other fault, or the array has a bound
    element_fault : {ty : PokeType} {order : Order} {extent : Extent} {inside : Levels} {s n pn k j : ℕ} {f : FaultAt}
        → is_due extent (length bits) s n pn ≡ true
        → Means bits ty order inside pn (Err f) k j
        → ends_before extent f.0 ≡ false
        → Closing bits ty order s extent n inside pn (Err f) (1 + k) j

  -- a field or an alternative, with its constraint
  pub data PartMeans (bits : List ℕ) : PokeType → Option Term → Order → Levels → (s : ℕ) → Result Value FaultAt →
      (steps made : ℕ) → Type 0 where
    -- a value whose constraint holds
    part : {ty : PokeType} {c : Option Term} {order : Order} {levels : Levels} {s k j : ℕ} {v : Value}
        → Means bits ty order levels s (Ok v) k j
        → constraint c (pushed levels (Some v)) s ≡ Ok tt
        → PartMeans bits ty c order levels s (Ok v) (k + clause_steps c (pushed levels (Some v))) j
    -- its constraint is 0 or has a fault
    part_refused : {ty : PokeType} {c : Option Term} {order : Order} {levels : Levels} {s k j : ℕ}
        {v : Value} {f : FaultAt}
        → Means bits ty order levels s (Ok v) k j
        → constraint c (pushed levels (Some v)) s ≡ Err f
        → PartMeans bits ty c order levels s (Err f) (k + clause_steps c (pushed levels (Some v))) j
    -- it has a fault itself
    part_fault : {ty : PokeType} {c : Option Term} {order : Order} {levels : Levels} {s k j : ℕ} {f : FaultAt}
        → Means bits ty order levels s (Err f) k j
        → PartMeans bits ty c order levels s (Err f) k j

  -- The fields of a struct at s from here on, in order: each is absent, or a value, or the first fault, which is the
  -- struct's. The last present field ended at `behind`, and the greatest end is `top`.
  pub data FieldsMean (bits : List ℕ) : (pinned : Bool) → (s : ℕ) → Fields → Order → Levels → (behind top : ℕ) →
      Result Opened FaultAt → (steps made : ℕ) → Type 0 where
    -- no field is left
    all_fields : {pinned : Bool} {order : Order} {levels : Levels} {s behind top : ℕ}
        → FieldsMean bits pinned s NoFields order levels behind top (Ok (levels, top)) 0 0
    -- the next field is absent; its label and constraint are not evaluated
    absent : {pinned : Bool} {name : Naming} {set : Option ByteOrder} {ty : PokeType} {c label when : Option Term}
        {rest : Fields} {order : Order} {levels : Levels} {s behind top k j : ℕ} {r : Result Opened FaultAt}
        → condition when levels s ≡ Ok false
        → FieldsMean bits pinned s rest order (pushed levels None) behind top r k j
        → FieldsMean bits pinned s (FieldThen name set ty c label when rest) order levels behind top r
        (1 + clause_steps when levels + k) j
    -- it is a value whose constraint holds, and the fields after it have the outcome r
    field : {pinned : Bool} {name : Naming} {set : Option ByteOrder} {ty : PokeType} {c label when : Option Term}
        {rest : Fields} {order : Order} {levels : Levels} {s behind top p k j k' j' : ℕ} {v : Value}
        {r : Result Opened FaultAt}
        → condition when levels s ≡ Ok true
        → field_start pinned label levels s behind ≡ Ok p
        → PartMeans bits ty c (ordered set order) levels p (Ok v) k j
        → FieldsMean bits pinned s rest order (pushed levels (Some v)) (end_of v) (max top (end_of v)) r k' j'
        → FieldsMean bits pinned s (FieldThen name set ty c label when rest) order levels behind top r
        (1 + clause_steps when levels + label_steps pinned label levels + k + k') (j + j')
    -- its condition has a fault
    condition_fault : {pinned : Bool} {name : Naming} {set : Option ByteOrder} {ty : PokeType}
        {c label when : Option Term} {rest : Fields} {order : Order} {levels : Levels} {s behind top : ℕ} {f : FaultAt}
        → condition when levels s ≡ Err f
        → FieldsMean bits pinned s (FieldThen name set ty c label when rest) order levels behind top (Err f)
        (1 + clause_steps when levels) 0
    -- its label has a fault or is negative
    label_fault : {pinned : Bool} {name : Naming} {set : Option ByteOrder} {ty : PokeType} {c label when : Option Term}
        {rest : Fields} {order : Order} {levels : Levels} {s behind top : ℕ} {f : FaultAt}
        → condition when levels s ≡ Ok true
        → field_start pinned label levels s behind ≡ Err f
        → FieldsMean bits pinned s (FieldThen name set ty c label when rest) order levels behind top (Err f)
        (1 + clause_steps when levels + label_steps pinned label levels) 0
    -- it has a fault, or its constraint is 0
    field_fault : {pinned : Bool} {name : Naming} {set : Option ByteOrder} {ty : PokeType} {c label when : Option Term}
        {rest : Fields} {order : Order} {levels : Levels} {s behind top p k j : ℕ} {f : FaultAt}
        → condition when levels s ≡ Ok true
        → field_start pinned label levels s behind ≡ Ok p
        → PartMeans bits ty c (ordered set order) levels p (Err f) k j
        → FieldsMean bits pinned s (FieldThen name set ty c label when rest) order levels behind top (Err f)
        (1 + clause_steps when levels + label_steps pinned label levels + k) j

  -- the alternatives from here on: some don't match, and the next one matches, has a fault that ends the union, or
  -- doesn't exist
  pub data AlternativesMean (bits : List ℕ) : Parts → (index : ℕ) → Order → Levels → (s : ℕ) → Result Taken FaultAt →
      (steps made : ℕ) → Type 0 where
    -- none matches
    none_left : {index s : ℕ} {order : Order} {levels : Levels}
        → AlternativesMean bits NoParts index order levels s (Err (fault.Constraint, s)) 0 0
    -- the next one matches
    fits : {name : Naming} {set : Option ByteOrder} {ty : PokeType} {c : Option Term} {rest : Parts} {index s k j : ℕ}
        {order : Order} {levels : Levels} {v : Value}
        → PartMeans bits ty c (ordered set order) levels s (Ok v) k j
        → AlternativesMean bits (PartThen name set ty c rest) index order levels s
        (Ok (record { index = index; name = name; value = v })) (1 + k) j
    -- it doesn't match, and the alternatives after it have the outcome r
    misses_it : {name : Naming} {set : Option ByteOrder} {ty : PokeType} {c : Option Term} {rest : Parts}
        {index s k j k' j' : ℕ} {order : Order} {levels : Levels} {f : FaultAt} {r : Result Taken FaultAt}
        → PartMeans bits ty c (ordered set order) levels s (Err f) k j
        → misses f.0 ≡ true
        → AlternativesMean bits rest (index + 1) order levels s r k' j'
        → AlternativesMean bits (PartThen name set ty c rest) index order levels s r (1 + k + k') (j + j')
    -- it has a fault that ends the union
    other_fault : {name : Naming} {set : Option ByteOrder} {ty : PokeType} {c : Option Term} {rest : Parts}
        {index s k j : ℕ} {order : Order} {levels : Levels} {f : FaultAt}
        → PartMeans bits ty c (ordered set order) levels s (Err f) k j
        → misses f.0 ≡ false
        → AlternativesMean bits (PartThen name set ty c rest) index order levels s (Err f) (1 + k) j
