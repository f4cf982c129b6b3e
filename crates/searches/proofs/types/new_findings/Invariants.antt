use Rattle.std.proofs.Common.{◌-◌, ◌≤◌}
use Rattle.searches.specs.Round.{AreNew}
use Rattle.searches.proofs.types.new_findings.Given as goal

abbrev pub invariant-loop-done : goal.invariant-loop-done
invariant-loop-done l = record {
  within : l.done ≤ l.count;
  are : AreNew l.done l.all.items;
}

abbrev pub decreases-loop-done : goal.decreases-loop-done
decreases-loop-done l = l.count - l.done
