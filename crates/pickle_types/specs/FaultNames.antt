-- The names of the faults of types, as messages print them.
use Rattle.std.specs.Prelude.{ℕ, List, codes}
use Rattle.pickle_types.specs.declared.fault.FaultKind.{FaultKind}
use Rattle.pickle_types.specs.declared.fault.FaultKind.TheVariants as types

-- the name of a fault of types
abbrev pub type_kind : FaultKind → List ℕ
type_kind types.UnknownType = codes "UnknownType"
type_kind types.DuplicateType = codes "DuplicateType"
type_kind types.UnknownName = codes "UnknownName"
type_kind types.DuplicateField = codes "DuplicateField"
type_kind types.Mismatch = codes "Mismatch"
type_kind types.Width = codes "Width"
type_kind types.IntegralWidths = codes "IntegralWidths"
type_kind types.NotHere = codes "NotHere"
type_kind types.TooDeep = codes "TooDeep"
type_kind types.Memory = codes "Memory"
