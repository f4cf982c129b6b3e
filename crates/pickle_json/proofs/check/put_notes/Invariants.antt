use Rattle.std.proofs.Common.{length, ◌-◌}
use Rattle.pickle_json.proofs.Lists.{HasNotes}
use Rattle.pickle_json.proofs.check.put_notes.Given as goal

abbrev pub invariant-loop-done : goal.invariant-loop-done
invariant-loop-done g l = HasNotes l.pickle (g.W.Write.contents l.initial.w) (g.W.Write.contents l.w) l.done l.notes

abbrev pub decreases-loop-done : goal.decreases-loop-done
decreases-loop-done g l = length l.notes - l.done
