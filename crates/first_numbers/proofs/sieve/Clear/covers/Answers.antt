-- `covers`: the start is among those that were read before, or are read now.
use Rattle.std.proofs.Common.{◌≡◌, ◌*◌, ◌/◌, arith, subst, sym}
use Rattle.std.proofs.lemmas.Bool.{ltb-true}
use Rattle.first_numbers.specs.Reads.{IsMissed}
use Rattle.first_numbers.proofs.sieve.Clear.covers.Goals as goal

pub returns-then-has-clause-covers : goal.returns-then-has-clause-covers
returns-then-has-clause-covers g c = λ held order is before told.
    let clear = c.has.ensures c.if-has.true in
    subst (λ bit. IsMissed held (g.S.Space.view c.args.space.now) order bit c.args.self.now.steps c.args.self.now.steps)
    (sym clear.is_at) (before clear.at clear.from clear.to)

pub returns-clause-after : goal.returns-clause-after
returns-clause-after g c = λ held order is before. c.missed_run-run.ensures.missed held order is

pub returns-clause-covers : goal.returns-clause-covers
returns-clause-covers g c = λ held order is before told.
    let same : 8 * (c.args.start / 8) ≡ c.args.start = omega (arith, c.if-start-ne0.false) in
    subst (λ bit. IsMissed held (g.S.Space.view c.args.space.now) order bit c.args.screen.now.steps
    c.args.screen.now.steps) same
    (c.missed_run-run.ensures.missed held order is (c.args.start / 8) (omega arith) (ltb-true _ _ told))
