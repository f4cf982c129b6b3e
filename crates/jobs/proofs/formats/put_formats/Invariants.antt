use Rattle.std.proofs.Common.{take}
use Rattle.std.specs.Io.KnownBytes.{Appends}
use Rattle.std.specs.List.{flat_map}
use Rattle.jobs.proofs.Listed.{listed_one}
use Rattle.jobs.proofs.formats.put_formats.Given as goal

abbrev pub invariant-loop-one : goal.invariant-loop-one
invariant-loop-one g l = Appends (g.O.Write.contents l.initial.out) (g.O.Write.contents l.out)
    (flat_map (listed_one l.form) (take l.one-index l.installed))
