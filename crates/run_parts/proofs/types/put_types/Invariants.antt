use Rattle.std.proofs.Common.{length, ◌-◌, ◌≤◌, take}
use Rattle.std.specs.Io.KnownBytes.{Appends}
use Rattle.run_parts.specs.TypesText.{told_lines}
use Rattle.run_parts.proofs.types.put_types.Given as goal

abbrev pub invariant-loop-done : goal.invariant-loop-done
invariant-loop-done g l = (l.done ≤ length l.types)
    × Appends (g.W.Write.contents l.initial.w) (g.W.Write.contents l.w) (told_lines (take l.done l.types))

abbrev pub decreases-loop-done : goal.decreases-loop-done
decreases-loop-done g l = length l.types - l.done
