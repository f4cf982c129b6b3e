use Rattle.std.proofs.Common.{arith}
use Rattle.searches.specs.Written.{no_starts}
use Rattle.jobs.specs.Tasks.{first_values}
use Rattle.jobs.proofs.Holding.{holds_cut, holds_next}
use Rattle.jobs.proofs.Searched.{search_holds}
use Rattle.jobs.proofs.value_search.search_run.Goals as goal

pub returns-in-Err-clause-searches : goal.returns-in-Err-clause-searches
returns-in-Err-clause-searches g c = λ pickle. record {
  after = g.S.Space.view c.args.space.now;
  failures = omega arith;
  holds = holds_cut _ _ _ _ (first_values no_starts) c.in-Err.ensures.err;
}

pub returns-clause-searches : goal.returns-clause-searches
returns-clause-searches g c = λ pickle. record {
  after = g.S.Space.view c.search_values-searched.new.space;
  failures = omega arith;
  holds = holds_next _ _ _ _ _ _ c.in-Ok.ensures.ok
      (search_holds c.args.search _ _ _ _ _ _ _
      (rw c.search_of.ensures at c.search_values-searched.ensures.writes));
}
