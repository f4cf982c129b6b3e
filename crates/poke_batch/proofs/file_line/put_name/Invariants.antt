use Rattle.std.proofs.Common.{length, ◌-◌, ◌≤◌, take}
use Rattle.std.specs.Io.KnownBytes.{Appends}
use Rattle.poke_batch.specs.FileLine.{shown_name}
use Rattle.poke_batch.proofs.file_line.put_name.Given as goal

abbrev pub invariant-loop-done : goal.invariant-loop-done
invariant-loop-done g l = (l.done ≤ length l.name)
    × Appends (g.W.Write.contents l.initial.w) (g.W.Write.contents l.w) (shown_name (take l.done l.name))

abbrev pub decreases-loop-done : goal.decreases-loop-done
decreases-loop-done g l = length l.name - l.done
