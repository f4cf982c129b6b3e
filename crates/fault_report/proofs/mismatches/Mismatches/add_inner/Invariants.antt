-- What is stored so far, with the alternatives that are still to come, is what is stored in the end.
use Rattle.std.proofs.Common.{◌≡◌}
use Rattle.fault_report.specs.Watched.{filled_inner, with_inner}
use Rattle.fault_report.proofs.mismatches.Mismatches.add_inner.Given as goal

abbrev pub invariant-loop-miss : goal.invariant-loop-miss
invariant-loop-miss l = record {
  misses : with_inner l.depth l.miss-iterator.rest.items l.self.misses.items
      ≡ with_inner l.fn.depth l.fn.misses.items l.fn.self.misses.items;
  full : filled_inner l.depth l.miss-iterator.rest.items l.self.misses.items l.self.full
      ≡ filled_inner l.fn.depth l.fn.misses.items l.fn.self.misses.items l.fn.self.full;
}
