-- The names of the faults of a mapping, as messages print them.
use Rattle.std.specs.Prelude.{ℕ, List, codes}
use Rattle.pickle_meaning.specs.declared.faults.MapFaultKind.{MapFaultKind}
use Rattle.pickle_meaning.specs.declared.faults.MapFaultKind.TheVariants as fault

-- the name of a fault of a mapping
abbrev pub fault_kind : MapFaultKind → List ℕ
fault_kind fault.End = codes "End"
fault_kind fault.Constraint = codes "Constraint"
fault_kind fault.Bounds = codes "Bounds"
fault_kind fault.NoBits = codes "NoBits"
fault_kind fault.Zero = codes "Zero"
fault_kind fault.Overflow = codes "Overflow"
fault_kind fault.Absent = codes "Absent"
fault_kind fault.Index = codes "Index"
fault_kind fault.Limit = codes "Limit"
fault_kind fault.Device = codes "Device"
fault_kind fault.Memory = codes "Memory"
