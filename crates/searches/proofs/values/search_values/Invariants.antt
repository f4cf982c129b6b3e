use Rattle.std.proofs.Common.{◌≤◌, ◌-◌}
use Rattle.bit_space.specs.SpaceView.{Keeps}
use Rattle.first_numbers.specs.Screens.{IsSieve}
use Rattle.poke_batch.specs.TypeRuns.{run_type}
use Rattle.records.specs.Next.{IsReady}
use Rattle.searches.specs.Starts.{IsFew}
use Rattle.searches.proofs.Reached.{IsSearched}
use Rattle.searches.proofs.values.search_values.Given as goal

abbrev pub invariant-loop-sieve : goal.invariant-loop-sieve
invariant-loop-sieve g l = record {
  keeps : Keeps (g.S.Space.view l.fn.space) (g.S.Space.view l.space);
  ready : IsReady l.run l.kept;
  sieve : IsSieve (run_type l.run) (g.S.Space.view l.space) l.run.ask.now.order l.sieve;
  few : IsFew l.reach;
  inside : l.reach.place ≤ l.bits;
  searched : IsSearched l.run l.search (g.S.Space.view l.fn.space) l.reach
      (g.O.Write.contents l.fn.out) (g.O.Write.contents l.out);
}

abbrev pub decreases-loop-sieve : goal.decreases-loop-sieve
decreases-loop-sieve g l = l.bits - l.reach.place
