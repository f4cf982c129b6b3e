-- What is found on a path through the fields of integral structs.
use Rattle.std.specs.Prelude.{◌≡◌, ℕ, ◌<◌, ◌≤◌, length, drop, List, Some, Ok, Err}
use Rattle.pickle_types.specs.declared.node.Node.{Node}
use Rattle.pickle_types.specs.declared.node.Part.{Part}
use Rattle.pickle_types.specs.Types.{PokeType}
use Rattle.pickle_types.specs.Table.{type_of, open_parts, optional_term}
use Rattle.pickle_meaning.specs.Values.{Value, Levels, pushed}
use Rattle.pickle_meaning.specs.Clauses.{FaultAt, constraint}
use Rattle.pickle_meaning.specs.Means.{NumberMeans}
use Rattle.fault_parts.specs.Arises.{DigitsBefore}
use Rattle.fault_parts.specs.Somehow.{Somehow}

-- one more value was stored, which the number means
pub record KeepsNumber (ty : PokeType) (number s : ℕ) (levels levels' : Levels) : Type 0 where
  pub value : Value
  pub means : Somehow (NumberMeans ty number levels s (Ok value))
  pub keeps : levels' ≡ pushed levels (Some value)

-- one more field was stored, whose constraint holds
pub record PassesNumber (nodes : List Node) (number s : ℕ) (p : Part) (levels levels' : Levels) : Type 0 where
  pub value : Value
  pub means : Somehow (NumberMeans (type_of nodes p.node) number levels s (Ok value))
  pub keeps : levels' ≡ pushed levels (Some value)
  pub holds : constraint (optional_term p.constraint) (pushed levels (Some value)) s ≡ Ok tt

-- the number is a value of a field, and its constraint refuses it with the fault
pub record RefusesNumber (nodes : List Node) (number s : ℕ) (p : Part) (levels : Levels) (f : FaultAt) : Type 0 where
  pub value : Value
  pub means : Somehow (NumberMeans (type_of nodes p.node) number levels s (Ok value))
  pub refused : constraint (optional_term p.constraint) (pushed levels (Some value)) s ≡ Err f

-- the fields before a place were stored, and so many binary digits of the number are left
pub record ReachesNumber (nodes : List Node) (n s : ℕ) (fields : List Part) (width : ℕ) (levels : Levels) (place : ℕ)
    (levels' : Levels) (left : ℕ) : Type 0 where
  pub inside : place < length fields
  pub few : left ≤ 64
  pub before : DigitsBefore n s (open_parts (type_of nodes) fields) width levels place
      (open_parts (type_of nodes) (drop place fields)) left levels'
