-- `try_next`: what was read before says what comes of the type, or it is tried.
use Rattle.searches.proofs.round.try_next.Goals as goal

pub pass_next-requires-clause-places : goal.pass_next-requires-clause-places
pass_next-requires-clause-places g c = c.requires.ready.places

pub pass_next-requires-clause-sieves : goal.pass_next-requires-clause-sieves
pass_next-requires-clause-sieves g c = c.requires.ready.sieves.count

pub returns-in-Some-clause-ok : goal.returns-in-Some-clause-ok
returns-in-Some-clause-ok g c = λ first since.
    c.in-Some.ensures first (g.S.Space.view c.args.space.now) c.args.stock.now.text.items since
    (g.met.S.Space.whole c.args.space.now) c.requires.ready.sieves
