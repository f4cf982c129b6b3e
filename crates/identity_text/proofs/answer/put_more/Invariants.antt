use Rattle.std.proofs.Common.{length, ◌-◌, ◌≤◌, take}
use Rattle.std.specs.Io.KnownBytes.{Appends}
use Rattle.std.specs.List.{flat_map}
use Rattle.identity_text.proofs.Writing.{next_of}
use Rattle.identity_text.proofs.answer.put_more.Given as goal

abbrev pub invariant-loop-done : goal.invariant-loop-done
invariant-loop-done g l = (l.done ≤ length l.fits)
    × Appends (g.W.Write.contents l.initial.w) (g.W.Write.contents l.w)
    (flat_map (next_of l.form l.formats) (take l.done l.fits))

abbrev pub decreases-loop-done : goal.decreases-loop-done
decreases-loop-done g l = length l.fits - l.done
