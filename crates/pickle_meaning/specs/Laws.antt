-- The laws of the meaning of a mapping.
use Rattle.std.specs.Prelude.{◌≡◌, ℕ, ◌+◌, ◌/◌, ◌≤◌, max, length, List, Result, Ok, Err}
use Rattle.bit_space.specs.declared.order.Order.{Order}
use Rattle.bit_space.specs.Bits.{bits_of}
use Rattle.pickle_types.specs.Types.{PokeType}
use Rattle.pickle_types.specs.Bounds.{least_width, cost, room}
use Rattle.pickle_meaning.specs.declared.extent.Extent.{Extent}
use Rattle.pickle_meaning.specs.Values.{Value, start_of, end_of, Levels}
use Rattle.pickle_meaning.specs.Clauses.{FaultAt}
use Rattle.pickle_meaning.specs.Means.{Means, Elements}
use Rattle.pickle_meaning.specs.Room.{NodeSlot, ByteSlot, value_slots}
use Rattle.pickle_meaning.specs.Answer.{Answer}
use Rattle.pickle_meaning.specs.Fits.{Fits}

-- exactly one outcome, number of steps and number of values made
pub record OneOutcome (bits : List ℕ) (ty : PokeType) (order : Order) (levels : Levels) (s : ℕ) : Type 0 where
  pub outcome : Result Value FaultAt
  pub steps : ℕ
  pub made : ℕ
  pub means : Means bits ty order levels s outcome steps made
  pub only : (r : Result Value FaultAt) (k j : ℕ) → Means bits ty order levels s r k j →
      (r ≡ outcome) × (k ≡ steps) × (j ≡ made)

-- each type has exactly one outcome at each place of each file
abbrev pub HasOneOutcome : Type 0
HasOneOutcome = (bits : List ℕ) (ty : PokeType) (order : Order) (levels : Levels) (s : ℕ) →
    OneOutcome bits ty order levels s

-- exactly one answer and number of steps under a limit
pub record OneAnswer (bits : List ℕ) (ty : PokeType) (order : Order) (s limit : ℕ) : Type 0 where
  pub answer : Result Value FaultAt
  pub steps : ℕ
  pub made : ℕ
  pub answers : Answer bits ty order s limit answer steps made
  pub only : (r : Result Value FaultAt) (k j : ℕ) → Answer bits ty order s limit r k j → (r ≡ answer) × (k ≡ steps)

abbrev pub HasOneAnswer : Type 0
HasOneAnswer = (bits : List ℕ) (ty : PokeType) (order : Order) (s limit : ℕ) → OneAnswer bits ty order s limit

-- the nodes and the bytes of texts of a value
abbrev pub value_size : Result Value FaultAt → ℕ
value_size (Ok v) = value_slots NodeSlot v + value_slots ByteSlot v
value_size (Err f) = 0

-- a value starts where it is mapped
abbrev pub ValuesStartThere : Type 0
ValuesStartThere = (bits : List ℕ) (ty : PokeType) (order : Order) (levels : Levels) (s : ℕ) (v : Value) (k j : ℕ) →
    Means bits ty order levels s (Ok v) k j → start_of v ≡ s

-- a value ends in the file; its size is at least its type's least width
abbrev pub ValuesAreWide : Type 0
ValuesAreWide = (bits : List ℕ) (ty : PokeType) (order : Order) (levels : Levels) (s : ℕ) (v : Value) (k j : ℕ) →
    Means bits ty order levels s (Ok v) k j → (s + least_width ty ≤ end_of v) × (end_of v ≤ length bits)

-- at most as many elements of an array are values as fit in the file; one more may be tried
abbrev pub TriesAreFew : Type 0
TriesAreFew = (bits : List ℕ) (ty : PokeType) (order : Order) (s : ℕ) (extent : Extent) (levels : Levels) (n : ℕ)
    (inside : Levels) (pn k j : ℕ) → s ≤ length bits → Elements bits ty order s extent 0 levels s n inside pn k j →
    n ≤ length bits / max 1 (least_width ty)

-- a value fits; nothing is said of a fault
abbrev pub ValueFits : (m : ℕ) → PokeType → Levels → (s : ℕ) → Result Value FaultAt → Type 0
ValueFits m ty levels s (Ok v) = Fits m ty levels s v
ValueFits m ty levels s (Err f) = Unit {0}

-- the bounds of an outcome: its steps are at most the type's bound, its values made at most its steps, and the parts of
-- a value at most the values made
pub record IsBounded (bits : List ℕ) (ty : PokeType) (r : Result Value FaultAt) (k j : ℕ) : Type 0 where
  pub steps : k ≤ cost ty (length bits)
  pub made : j ≤ k
  pub parts : value_size r ≤ j

-- each outcome that a type means is bounded
abbrev pub OutcomesAreBounded : Type 0
OutcomesAreBounded =
    (bits : List ℕ) (ty : PokeType) (order : Order) (levels : Levels) (s : ℕ) (r : Result Value FaultAt) (k j : ℕ) →
    Means bits ty order levels s r k j → IsBounded bits ty r k j

-- each value that a type means on a file's bits fits the type there
abbrev pub OutcomesFit : Type 0
OutcomesFit =
    (bytes : List ℕ) (ty : PokeType) (order : Order) (levels : Levels) (s : ℕ) (r : Result Value FaultAt) (k j : ℕ) →
    Means (bits_of bytes) ty order levels s r k j → ValueFits (length (bits_of bytes)) ty levels s r
