-- The fault has the alternatives that were taken.
use Rattle.std.proofs.Common.{◌≡◌, rules}
use Rattle.fault_report.proofs.watcher.PartWatcher.keep_refused.Goals as goal

pub returns-clause-refuses : goal.returns-clause-refuses
returns-clause-refuses c = record {
  fault = record {
    way = search rules;
    stop = search rules;
    cause = rw c.new.ensures.cause (rw c.depth.ensures at c.in_ok-told.ensures.taken, search rules);
    around = search rules;
  };
  misses = rw c.depth.ensures at c.in_ok-told.ensures.misses;
  full = rw c.depth.ensures at c.in_ok-told.ensures.full;
  ended = search rules;
}
