-- The kinds of fault that are part of what a type means, and those of a run.
use Rattle.std.specs.Prelude.{Result, Ok, Err}
use Rattle.pickle_meaning.specs.declared.faults.MapFaultKind.{MapFaultKind}
use Rattle.pickle_meaning.specs.declared.faults.MapFaultKind.TheVariants as fault
use Rattle.pickle_meaning.specs.Clauses.{FaultAt}

-- a kind of fault that the type and the file's bits decide; missing steps, allocation failures and device faults are of
-- the run
abbrev pub IsMeant : MapFaultKind → Type 0
IsMeant fault.Limit = ⊥
IsMeant fault.Device = ⊥
IsMeant fault.Memory = ⊥
IsMeant kind = Unit {0}

-- a fact about the kind of a fault; nothing is said of a value
abbrev pub OfFault : {A : Type 0} → (MapFaultKind → Type 0) → Result A FaultAt → Type 0
OfFault P (Ok a) = Unit {0}
OfFault P (Err f) = P f.0
