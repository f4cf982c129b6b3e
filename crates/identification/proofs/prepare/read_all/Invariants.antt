use Rattle.std.proofs.Common.{take}
use Rattle.identification.specs.Prepared.{AreRead}
use Rattle.identification.proofs.prepare.read_all.Given as goal

abbrev pub invariant-loop-place : goal.invariant-loop-place
invariant-loop-place l = AreRead (take l.place l.sources) l.list.items
