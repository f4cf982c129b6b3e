-- `read_run`: the starts of a layout with first numbers are read.
use Rattle.first_numbers.proofs.Screened.{sieve_read}
use Rattle.first_numbers.proofs.sieve.Sieve.read_run.Goals as goal

pub returns-in-Tests-clause-after : goal.returns-in-Tests-clause-after
returns-in-Tests-clause-after g c = λ type order h.
    sieve_read type order (g.S.Space.view c.args.space.now) _ c.args.self.now c.in-Tests.first _ c.in-Tests.is
    c.failing_run-self.ensures.keeps c.failing_run-self.ensures.missed h
