use Rattle.first_numbers.proofs.Screened.{sieve_covers, sieve_moved}
use Rattle.first_numbers.proofs.sieve.Sieve.is_covered.Goals as goal

pub returns-in-Some-clause-after : goal.returns-in-Some-clause-after
returns-in-Some-clause-after g c = λ type order h.
    sieve_moved type order (g.S.Space.view c.args.space.now) _ c.args.self.now c.in-Some.screen _
    c.covers.ensures.keeps c.in-Some.is c.covers.ensures.after h

pub returns-in-Some-clause-covered : goal.returns-in-Some-clause-covered
returns-in-Some-clause-covered g c = λ type order h told.
    sieve_covers type order (g.S.Space.view c.args.space.now) c.args.self.now c.in-Some.screen c.args.start _
    c.in-Some.is (λ held order is before. c.covers.ensures.covers held order is before told) h
