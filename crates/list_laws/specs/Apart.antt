-- The elements of a list, each beside an empty frame: no other element is stored while it is mapped.
use Rattle.std.specs.Prelude.{◌≡◌, ℕ, ◌+◌, ◌<◌, length, true, false, List, [], ◌∷◌, Option, Some, None, Ok, Err}
use Rattle.pickle_meaning.specs.declared.faults.MapFaultKind.TheVariants as fault
use Rattle.pickle_meaning.specs.Values.{Value, end_of, opened}
use Rattle.pickle_meaning.specs.Clauses.{FaultAt, is_due, is_met, ends_before}
use Rattle.pickle_meaning.specs.Means.{Means}
use Rattle.list_laws.specs.Reaches.{Listed}

-- The elements of a list from number i at bit p on, up to number n at pn: each is due, and is a value of at least one
-- bit, at the end of the one before it.
pub data AreApart (bits : List ℕ) (list : Listed) : (i p : ℕ) → List Value → (n pn : ℕ) → (steps made : ℕ) →
    Type 0 where
  no_element : {i p : ℕ} → AreApart bits list i p [] i p 0 0
  next_apart : {i p n pn k j k' j' : ℕ} {v : Value} {values : List Value}
      → is_due list.extent (length bits) list.start i p ≡ true
      → Means bits list.element list.order (opened list.levels) p (Ok v) k j
      → p < end_of v
      → AreApart bits list (i + 1) (end_of v) values n pn k' j'
      → AreApart bits list i p (v ∷ values) n pn (1 + k + k') (j + j')

-- how the list ends after n elements, at bit p: without a fault, or with this one
pub data EndsApart (bits : List ℕ) (list : Listed) (n p : ℕ) : Option FaultAt → (steps made : ℕ) → Type 0 where
  -- no element is due, and a size is met
  met : is_due list.extent (length bits) list.start n p ≡ false
      → is_met list.extent list.start p ≡ true
      → EndsApart bits list n p None 0 0
  -- no element is due, and the last one ends past the size
  overshot : is_due list.extent (length bits) list.start n p ≡ false
      → is_met list.extent list.start p ≡ false
      → EndsApart bits list n p (Some (fault.Bounds, list.start)) 0 0
  -- the next element takes no bits
  empty : {k j : ℕ} {v : Value}
      → is_due list.extent (length bits) list.start n p ≡ true
      → Means bits list.element list.order (opened list.levels) p (Ok v) k j
      → end_of v ≡ p
      → EndsApart bits list n p (Some (fault.NoBits, p)) (1 + k) j
  -- it has a fault that ends an unbounded array, and is dropped
  dropped : {k j : ℕ} {f : FaultAt}
      → is_due list.extent (length bits) list.start n p ≡ true
      → Means bits list.element list.order (opened list.levels) p (Err f) k j
      → ends_before list.extent f.0 ≡ true
      → EndsApart bits list n p None (1 + k) j
  -- it has any other fault, or the array has a bound
  stopped : {k j : ℕ} {f : FaultAt}
      → is_due list.extent (length bits) list.start n p ≡ true
      → Means bits list.element list.order (opened list.levels) p (Err f) k j
      → ends_before list.extent f.0 ≡ false
      → EndsApart bits list n p (Some f) (1 + k) j
