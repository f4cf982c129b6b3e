-- `failing_stretch`: each of the starts that are known is ruled out.
use Rattle.first_numbers.proofs.Screened.{stretch_misses}
use Rattle.first_numbers.proofs.sieve.Sieve.failing_stretch.Goals as goal

pub returns-clause-missed : goal.returns-clause-missed
returns-clause-missed g c = λ type order h.
    stretch_misses type order (g.S.Space.view c.args.space.now) (g.S.Space.view c.read_run.new.space)
    c.read_run.new.self c.args.start c.args.step c.args.allowed
    (record { count = c.count_from.result; miss = c.in_ok-miss.miss }) c.read_run.ensures.keeps
    (c.read_run.ensures.after type order h) c.count_from.ensures c.in_ok-miss.ensures.missed
