use Rattle.std.proofs.Common.{arith}
use Rattle.records.specs.Written.{no_records}
use Rattle.jobs.specs.Tasks.{first_records}
use Rattle.jobs.proofs.Holding.{holds_cut, holds_next}
use Rattle.jobs.proofs.Recorded.{list_holds}
use Rattle.jobs.proofs.record_list.list_values.Goals as goal

pub returns-in-Err-clause-lists : goal.returns-in-Err-clause-lists
returns-in-Err-clause-lists g c = λ asked. record {
  after = g.S.Space.view c.args.space.now;
  failures = omega arith;
  holds = holds_cut _ _ _ _ (first_records no_records) c.in-Err.ensures.err;
}

pub returns-clause-lists : goal.returns-clause-lists
returns-clause-lists g c = λ asked. record {
  after = g.S.Space.view c.list_records-ended.new.space;
  failures = c.explain_end.ensures.failures;
  holds = holds_next _ _ _ _ _ _ c.in-Ok.ensures.ok
      (list_holds c.args.pickle.now.bytes.items c.args.list _ _ _ _ _ _ _
      (rw c.listing_of.ensures at (c.list_records-ended.ensures.writes c.args.pickle.now.bytes.items asked)));
}
