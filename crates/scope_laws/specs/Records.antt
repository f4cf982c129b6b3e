-- The values of a type one after another from a bit on: where each begins, and how they end.
use Rattle.std.specs.Prelude.{◌≡◌, ℕ, ◌+◌, ◌<◌, ◌≤◌, length, true, false, List, [], ◌∷◌, Option, Some, None, Result, Ok, Err}
use Rattle.bit_space.specs.declared.order.Order.{Order}
use Rattle.pickle_types.specs.Types.{PokeType}
use Rattle.pickle_meaning.specs.declared.faults.MapFaultKind.TheVariants as fault
use Rattle.pickle_meaning.specs.Values.{ArrayLabel, Value, Mapped, end_of, no_values, gathered}
use Rattle.pickle_meaning.specs.Clauses.{FaultAt, ends_array}
use Rattle.pickle_meaning.specs.Means.{Means}

-- The records of a type from bit p to bit pn: each is a value of at least one bit, at the end of the one before it. No
-- other values are around it.
pub data AreRecords (bits : List ℕ) (ty : PokeType) (order : Order) : (p : ℕ) → List Value → (pn : ℕ) →
    (steps made : ℕ) → Type 0 where
  no_record : {p : ℕ} → AreRecords bits ty order p [] p 0 0
  next_record : {p pn k j k' j' : ℕ} {v : Value} {values : List Value}
      → p < length bits
      → Means bits ty order no_values p (Ok v) k j
      → p < end_of v
      → AreRecords bits ty order (end_of v) values pn k' j'
      → AreRecords bits ty order p (v ∷ values) pn (1 + k + k') (j + j')

-- how the records end at bit p, after the last one: without a fault, or with this fault
pub data RecordsEnd (bits : List ℕ) (ty : PokeType) (order : Order) : (p : ℕ) → Option FaultAt →
    (steps made : ℕ) → Type 0 where
  -- no bit is left
  at_end : {p : ℕ}
      → length bits ≤ p
      → RecordsEnd bits ty order p None 0 0
  -- the next value has a fault that ends an array before it
  before_fault : {p k j : ℕ} {f : FaultAt}
      → p < length bits
      → Means bits ty order no_values p (Err f) k j
      → ends_array f.0 ≡ true
      → RecordsEnd bits ty order p None (1 + k) j
  -- the next value takes no bits
  no_bits : {p k j : ℕ} {v : Value}
      → p < length bits
      → Means bits ty order no_values p (Ok v) k j
      → end_of v ≡ p
      → RecordsEnd bits ty order p (Some (fault.NoBits, p)) (1 + k) j
  -- the next one has any other fault
  other_fault : {p k j : ℕ} {f : FaultAt}
      → p < length bits
      → Means bits ty order no_values p (Err f) k j
      → ends_array f.0 ≡ false
      → RecordsEnd bits ty order p (Some f) (1 + k) j

-- members that are all present
abbrev pub all_present : List Value → List (Option Value)
all_present [] = []
all_present (v ∷ values) = Some v ∷ all_present values

-- an array, unless a fault ends it
abbrev pub array_or_fault : Value → Option FaultAt → Result Value FaultAt
array_or_fault v None = Ok v
array_or_fault v (Some f) = Err f

-- the array is a value made itself, where no fault ends it
abbrev pub array_made : Option FaultAt → ℕ
array_made None = 1
array_made (Some f) = 0

-- the array of some records, up to a bit
abbrev pub array_of : (start : ℕ) → List Value → (end : ℕ) → Value
array_of start values end = Mapped ArrayLabel start end (gathered (all_present values))

-- what an array without a bound means at a bit: all records from there on, and how they end
pub record IsOfRecords (bits : List ℕ) (ty : PokeType) (order : Order) (s : ℕ) (r : Result Value FaultAt) (k j : ℕ) :
    Type 0 where
  pub values : List Value
  pub last : ℕ
  pub end : Option FaultAt
  pub steps : ℕ
  pub made : ℕ
  pub end_steps : ℕ
  pub end_made : ℕ
  pub records : AreRecords bits ty order s values last steps made
  pub ends : RecordsEnd bits ty order last end end_steps end_made
  pub result : r ≡ array_or_fault (array_of s values last) end
  pub taken : k ≡ 1 + steps + end_steps
  pub counted : j ≡ made + end_made + array_made end
