use Rattle.std.proofs.Common.{length, ◌-◌, ◌≤◌, take}
use Rattle.std.specs.Io.KnownBytes.{Appends}
use Rattle.poke_batch.proofs.FileObjects.{name_bytes}
use Rattle.poke_batch.proofs.file_object.put_name_bytes.Given as goal

abbrev pub invariant-loop-done : goal.invariant-loop-done
invariant-loop-done g l = (l.done ≤ length l.name)
    × Appends (g.W.Write.contents l.initial.w) (g.W.Write.contents l.w) (name_bytes (take l.done l.name))

abbrev pub decreases-loop-done : goal.decreases-loop-done
decreases-loop-done g l = length l.name - l.done
