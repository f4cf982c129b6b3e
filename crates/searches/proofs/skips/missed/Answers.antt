use Rattle.poke_batch.specs.TypeRuns.{run_type}
use Rattle.searches.proofs.Missed.{miss_there}
use Rattle.searches.proofs.skips.missed.Goals as goal

pub returns-in_err-miss-clause-sieve : goal.returns-in_err-miss-clause-sieve
returns-in_err-miss-clause-sieve g c =
    c.missed.ensures.after (run_type c.args.run.now) c.args.run.now.ask.now.order c.requires.sieve

pub returns-clause-sieve : goal.returns-clause-sieve
returns-clause-sieve g c =
    c.missed.ensures.after (run_type c.args.run.now) c.args.run.now.ask.now.order c.requires.sieve

pub returns-clause-missed : goal.returns-clause-missed
returns-clause-missed g c =
    let run = c.args.run.now in
    miss_there run (g.S.Space.view c.args.space.now) (g.S.Space.view c.missed.new.space) c.in_ok-miss.miss
    c.stop_at.result (g.met.S.Space.whole c.args.space.now)
    (c.in_ok-miss.ensures.missed (run_type run) run.ask.now.order c.requires.sieve) c.stop_at.ensures
