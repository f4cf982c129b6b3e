use Rattle.std.proofs.Common.{arith}
use Rattle.jobs.specs.Tasks.{only_names}
use Rattle.jobs.proofs.Holding.{holds_cut, holds_next}
use Rattle.jobs.proofs.Inner.{elements_hold}
use Rattle.jobs.proofs.inner_list.list_elements.Goals as goal

pub returns-in-Err-clause-lists : goal.returns-in-Err-clause-lists
returns-in-Err-clause-lists g c = record {
  after = g.S.Space.view c.args.space.now;
  failures = omega arith;
  holds = holds_cut _ _ _ _ only_names c.in-Err.ensures.err;
}

pub returns-clause-lists : goal.returns-clause-lists
returns-clause-lists g c = record {
  after = g.S.Space.view c.list_inner_records-ended.new.space;
  failures = c.explain_inner_end.ensures.failures;
  holds = holds_next _ _ _ _ _ _ c.in-Ok.ensures.ok
      (elements_hold c.args.run.now c.args.inner.now.fields.items c.args.list _ _ _ _ _ _
      (rw c.listing_of.ensures at c.list_inner_records-ended.ensures.writes));
}
