-- `missed_stretch`: each of the starts that are known is ruled out.
use Rattle.first_numbers.proofs.Screened.{stretch_misses}
use Rattle.first_numbers.proofs.sieve.Sieve.missed_stretch.Goals as goal

pub returns-clause-missed : goal.returns-clause-missed
returns-clause-missed g c = λ type order h.
    stretch_misses type order (g.S.Space.view c.args.space.now) (g.S.Space.view c.is_covered.new.space)
    c.is_covered.new.self c.args.start c.args.step c.args.allowed
    (record { count = c.count_from.result; miss = c.in_ok-miss.miss }) c.is_covered.ensures.keeps
    (c.is_covered.ensures.after type order h) c.count_from.ensures c.in_ok-miss.ensures.missed
