-- `own_stretch`: the type isn't due, or its sieve says how far it fails.
use Rattle.std.proofs.Common.{IfSome, arith}
use Rattle.first_numbers.proofs.Screened.{sieve_since}
use Rattle.pickle_types.specs.TypeTable.{type_named}
use Rattle.searches.specs.Stretches.{later}
use Rattle.searches.proofs.Together.{fails_here}
use Rattle.searches.proofs.stretches.own_stretch.Goals as goal

pub failing_stretch-requires-clause-sound : goal.failing_stretch-requires-clause-sound
failing_stretch-requires-clause-sound g c = c.requires.sieve.sound

pub returns-then-place-at-clause-passes : goal.returns-then-place-at-clause-passes
returns-then-place-at-clause-passes g c = later c.later_stretch.ensures.before c.later_stretch.ensures.free

pub returns-clause-passes : goal.returns-clause-passes
returns-clause-passes g c =
    let sought = c.args.sought.now in
    fails_here c.args.hunt.now (g.S.Space.view c.args.space.now) c.args.at c.args.place sought c.failing_stretch.result
    (omega (arith, c.if-place-at.false))
    (c.failing_stretch.ensures.missed (type_named sought.table.now sought.signature) sought.order c.requires.sieve)

pub returns-clause-sieve : goal.returns-clause-sieve
returns-clause-sieve g c =
    let sought = c.args.sought.now in
    c.failing_stretch.ensures.after (type_named sought.table.now sought.signature) sought.order c.requires.sieve
