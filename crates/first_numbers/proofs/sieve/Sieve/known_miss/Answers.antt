-- `known_miss`: the start is among those that were read.
use Rattle.std.proofs.Common.{refl}
use Rattle.first_numbers.proofs.Screened.{clear_covered, sieve_misses}
use Rattle.first_numbers.proofs.sieve.Sieve.known_miss.Goals as goal

pub returns-then-has-clause-missed : goal.returns-then-has-clause-missed
returns-then-has-clause-missed c = λ type space order h.
    let sieve = c.args.self.now in
    sieve_misses type order space sieve sieve.layout c.args.start c.args.allowed c.covered_miss.result refl h
    (c.covered_miss.ensures.missed space order c.args.start
    (clear_covered sieve.layout sieve.screen order space sieve.clear c.args.start (c.has.ensures c.if-has.true)
    h.passes))
