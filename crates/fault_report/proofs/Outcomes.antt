-- Outcomes of faults, and of mappings that end otherwise than their runs.
use Rattle.std.proofs.Common.{◌≡◌, ℕ, Bool, true, eqb, arith, [], Option, Some, None, refl}
use Rattle.std.specs.Prelude.{◌≢◌, ◌&&◌}
use Rattle.pickle_types.specs.Types.{PokeType}
use Rattle.pickle_meaning.specs.declared.faults.MapFault.{MapFault}
use Rattle.pickle_meaning.specs.declared.faults.MapFaultKind.{MapFaultKind}
use Rattle.pickle_meaning.specs.declared.faults.MapFaultKind.TheVariants as faults
use Rattle.run_parts.specs.declared.status.Status.TheVariants.{Fault as Faulty}
use Rattle.run_parts.specs.FaultLines.{fault_saying}
use Rattle.run_parts.specs.Outcomes.{outcome_saying, outcome_status}
use Rattle.run_parts.specs.declared.outcome.Outcome.{Outcome}
use Rattle.run_parts.specs.declared.outcome.Outcome.TheVariants.{Fault, Slots, Storage}
use Rattle.poke_batch.specs.RunsUnder.{end_under_saying, fixed_saying, weighing_saying}
use Rattle.fault_report.specs.Meant.{HasFault}
use Rattle.fault_report.specs.Why.{Run, FailsRead, IsOutcomeOf, itself, too_few_slots, too_many_bytes, TellsWhy, another_fault, failed_read}

-- a mapping that ends with another fault than the run
module _ (run : Run) (type : PokeType) where
  by_kind : (kind : MapFaultKind) (at : ℕ) → HasFault run.space type run.ask (record { kind = kind; at = at })
      → FailsRead run (record { kind = kind; at = at }) → kind ≢ faults.Memory
      → (IsOutcomeOf run.ask.start run.terms.most_slots run.terms.most_bytes
      (record { kind = kind; at = at }) run.outcome → ⊥)
      → TellsWhy run type []
  by_kind faults.End at has fails memory other = another_fault has refl other
  by_kind faults.Constraint at has fails memory other = another_fault has refl other
  by_kind faults.Bounds at has fails memory other = another_fault has refl other
  by_kind faults.NoBits at has fails memory other = another_fault has refl other
  by_kind faults.Zero at has fails memory other = another_fault has refl other
  by_kind faults.Overflow at has fails memory other = another_fault has refl other
  by_kind faults.Absent at has fails memory other = another_fault has refl other
  by_kind faults.Index at has fails memory other = another_fault has refl other
  by_kind faults.Limit at has fails memory other = another_fault has refl other
  by_kind faults.Device at has fails memory other = failed_read (fails refl)
  by_kind faults.Memory at has fails memory other = absurd (memory refl)

  pub stopped_otherwise : (fault : MapFault) → HasFault run.space type run.ask fault → FailsRead run fault
      → fault.kind ≢ faults.Memory
      → (IsOutcomeOf run.ask.start run.terms.most_slots run.terms.most_bytes fault run.outcome → ⊥)
      → TellsWhy run type []
  stopped_otherwise fault has fails memory other = by_kind fault.kind fault.at has fails memory other

-- a fault with exit status 1 has its own line, in each store
fixed_line : (start : ℕ) (kind : MapFaultKind) (at : ℕ) →
    outcome_status (Fault (record { kind = kind; at = at })) ≡ Faulty →
    fixed_saying start kind at ≡ fault_saying kind at
fixed_line start faults.End at e = refl
fixed_line start faults.Constraint at e = refl
fixed_line start faults.Bounds at e = refl
fixed_line start faults.NoBits at e = refl
fixed_line start faults.Zero at e = refl
fixed_line start faults.Overflow at e = refl
fixed_line start faults.Absent at e = refl
fixed_line start faults.Index at e = refl
fixed_line start faults.Limit at e = refl
fixed_line start faults.Device at e = refl
fixed_line start faults.Memory at e = cc

weighing_line : (start : ℕ) (kind : MapFaultKind) (at : ℕ) →
    outcome_status (Fault (record { kind = kind; at = at })) ≡ Faulty →
    weighing_saying start kind at ≡ fault_saying kind at
weighing_line start faults.End at e = refl
weighing_line start faults.Constraint at e = refl
weighing_line start faults.Bounds at e = refl
weighing_line start faults.NoBits at e = refl
weighing_line start faults.Zero at e = refl
weighing_line start faults.Overflow at e = refl
weighing_line start faults.Absent at e = refl
weighing_line start faults.Index at e = refl
weighing_line start faults.Limit at e = refl
weighing_line start faults.Device at e = refl
weighing_line start faults.Memory at e = cc

pub own_line : (slots bytes : Option ℕ) (start : ℕ) (fault : MapFault) → outcome_status (Fault fault) ≡ Faulty →
    end_under_saying slots bytes start fault.kind fault.at ≡ outcome_saying (Fault fault)
own_line None None start fault e = refl
own_line (Some slots) None start fault e = fixed_line start fault.kind fault.at e
own_line slots (Some bytes) start fault e = weighing_line start fault.kind fault.at e

-- a fault isn't the outcome of another
pub not_own : (start : ℕ) (slots bytes : Option ℕ) (fault told : MapFault) → (told ≡ fault → ⊥) →
    IsOutcomeOf start slots bytes fault (Fault told) → ⊥
not_own start slots bytes fault told differs (itself e) = differs refl

-- nor is an outcome that is neither a fault nor a want of slots or bytes
pub neither : (start : ℕ) (slots bytes : Option ℕ) (fault : MapFault) (ended : Outcome)
    → ((told : MapFault) → ended ≢ Fault told) → ((at : ℕ) → ended ≢ Slots at) → ((at : ℕ) → ended ≢ Storage at)
    → IsOutcomeOf start slots bytes fault ended → ⊥
neither start slots bytes fault ended no_fault no_slots no_storage (itself e) = no_fault fault refl
neither start slots bytes fault ended no_fault no_slots no_storage (too_few_slots free is memory) = no_slots start refl
neither start slots bytes fault ended no_fault no_slots no_storage (too_many_bytes is memory) = no_storage start refl

pub both_true : {a b : Bool} → a ≡ true → b ≡ true → a && b ≡ true
both_true x y = rw (x, y) refl

pub eqb_self : (a : ℕ) → eqb a a ≡ true
eqb_self a = grind arith
