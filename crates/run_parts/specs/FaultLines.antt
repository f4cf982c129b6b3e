-- The lines of the faults of a mapping.
use Rattle.std.specs.Prelude.{ℕ, codes}
use Rattle.pickle_meaning.specs.declared.faults.MapFaultKind.{MapFaultKind}
use Rattle.pickle_meaning.specs.declared.faults.MapFaultKind.TheVariants.{Device, Memory}
use Rattle.pickle_meaning.specs.FaultNames.{fault_kind}
use Rattle.run_parts.specs.declared.status.Status.TheVariants.{Fault, Outside}
use Rattle.run_parts.specs.Lines.{fault_line, fault_at_line}
use Rattle.run_parts.specs.Told.{Saying, Line}

-- the line of a fault, with its exit status: a failure of the environment has no place
abbrev pub fault_saying : MapFaultKind → ℕ → Saying
fault_saying Device at = Line Outside (fault_line (codes "Device"))
fault_saying Memory at = Line Outside (fault_line (codes "Memory"))
fault_saying kind at = Line Fault (fault_at_line (fault_kind kind) at)
