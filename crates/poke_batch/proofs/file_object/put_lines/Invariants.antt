use Rattle.std.proofs.Common.{length, ◌-◌}
use Rattle.poke_batch.proofs.FileObjects.{HasLines}
use Rattle.poke_batch.proofs.file_object.put_lines.Given as goal

abbrev pub invariant-loop-done : goal.invariant-loop-done
invariant-loop-done g l = HasLines (g.W.Write.contents l.initial.w) (g.W.Write.contents l.w) l.done l.text

abbrev pub decreases-loop-done : goal.decreases-loop-done
decreases-loop-done g l = length l.text - l.done
