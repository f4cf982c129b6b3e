-- The names of the faults of opening a file, as messages print them.
use Rattle.std.specs.Prelude.{ℕ, List, codes}
use Rattle.bit_space.specs.declared.file.OpenFault.{OpenFault}
use Rattle.bit_space.specs.declared.file.OpenFault.TheVariants as fault

-- the name of a fault of opening a file
abbrev pub open_kind : OpenFault → List ℕ
open_kind fault.NotOpened = codes "Open"
open_kind fault.TooLong = codes "TooLong"
