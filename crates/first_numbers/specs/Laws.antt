-- The law of the first numbers of a type.
use Rattle.std.specs.Prelude.{◌≡◌, ℕ, ◌+◌, ◌≤◌, length, List, Option, Some, Result, Ok, Err}
use Rattle.bit_space.specs.declared.order.Order.{Order}
use Rattle.bit_space.specs.Bits.{bits_of}
use Rattle.pickle_types.specs.Types.{PokeType}
use Rattle.pickle_meaning.specs.declared.faults.MapFaultKind.TheVariants as fault
use Rattle.pickle_meaning.specs.Clauses.{FaultAt}
use Rattle.pickle_meaning.specs.Means.{Means}
use Rattle.pickle_meaning.specs.Values.{Value, Levels, end_of}
use Rattle.mapping_plans.specs.Mapping.{plan}
use Rattle.first_numbers.specs.Layouts.{First, Fixed, Tests, layout}
use Rattle.first_numbers.specs.Runs.{Along, AllFail, CanRead}

-- Whatever is read: a type whose first numbers are all in the m bits and fail has a Constraint fault, in the steps of
-- these constraints and a constant number of others.
abbrev pub MissesAreFaults : Type 0
MissesAreFaults = (known : Option (List ℕ)) (m : ℕ) (ty : PokeType) (f : First) (order : Order) (levels : Levels)
    (s k : ℕ) →
    CanRead known → layout ty ≡ Tests f → s + f.need ≤ m → AllFail known order s f.numbers k →
    (j : ℕ) × Along known (plan m ty order levels s) (Err (fault.Constraint, s + f.fault)) (f.base + k) j

-- so it is the outcome of the type on a file's bits, and the only one
abbrev pub MissesAreOutcomes : Type 0
MissesAreOutcomes = (bytes : List ℕ) (ty : PokeType) (f : First) (order : Order) (levels : Levels) (s k : ℕ)
    (r : Result Value FaultAt) (steps made : ℕ) →
    layout ty ≡ Tests f → s + f.need ≤ length (bits_of bytes) → AllFail (Some (bits_of bytes)) order s f.numbers k →
    Means (bits_of bytes) ty order levels s r steps made →
    (r ≡ Err (fault.Constraint, s + f.fault)) × (steps ≡ f.base + k)

-- a type of a fixed layout has a value of that width there, in those steps
abbrev pub FixedAreValues : Type 0
FixedAreValues = (bytes : List ℕ) (ty : PokeType) (width steps : ℕ) (order : Order) (levels : Levels) (s : ℕ)
    (r : Result Value FaultAt) (k j : ℕ) →
    layout ty ≡ Fixed width steps → s + width ≤ length (bits_of bytes) →
    Means (bits_of bytes) ty order levels s r k j → (v : Value) × (r ≡ Ok v) × (end_of v ≡ s + width) × (k ≡ steps)
