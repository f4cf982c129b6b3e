-- `pass_over`: each start of the stretch is an attempt that finds nothing.
use Rattle.std.proofs.Common.{◌*◌, ap, subst, arith}
use Rattle.poke_batch.specs.TypeRuns.{run_type}
use Rattle.searches.proofs.Passed.{stretch_passed}
use Rattle.searches.proofs.Reached.{still_on}
use Rattle.searches.specs.Passed.{none_passed}
use Rattle.searches.proofs.skips.pass_over.Goals as goal

pub past_stretch-requires-clause-inside : goal.past_stretch-requires-clause-inside
past_stretch-requires-clause-inside g c =
    let inside = still_on c.args.search c.args.at _ c.requires.on in
    omega (arith, inside, c.len-bits.ensures)

pub returns-in-Some-clause-passes : goal.returns-in-Some-clause-passes
returns-in-Some-clause-passes g c = λ first since.
    let run = c.args.run.now in
    let inside = still_on c.args.search c.args.at _ c.requires.on in
    stretch_passed run c.args.search first (g.S.Space.view c.args.space.now) since
    (g.met.S.Space.whole c.args.space.now)
    c.args.at c.past_stretch.result c.in-Some.stretch (8 * c.len-bits.result) (ap (λ len. 8 * len) c.len-bits.ensures)
    (c.in-Some.ensures.missed (run_type run) run.ask.now.order c.requires.sieve)
    (omega (arith, inside, c.len-bits.ensures)) c.requires.on c.past_stretch.ensures

pub returns-in-None-clause-passes : goal.returns-in-None-clause-passes
returns-in-None-clause-passes g c = λ first since. none_passed

pub returns-in-Some-clause-sieve : goal.returns-in-Some-clause-sieve
returns-in-Some-clause-sieve g c =
    c.missed_stretch.ensures.after (run_type c.args.run.now) c.args.run.now.ask.now.order c.requires.sieve

pub returns-in-None-clause-sieve : goal.returns-in-None-clause-sieve
returns-in-None-clause-sieve g c =
    c.missed_stretch.ensures.after (run_type c.args.run.now) c.args.run.now.ask.now.order c.requires.sieve
