-- `failing_count`: a screen rules some starts out, or the first numbers of one are read.
use Rattle.bit_space.proofs.Failures.{keeps_all}
use Rattle.first_numbers.proofs.Screened.{missed_then}
use Rattle.first_numbers.proofs.sieve.failing_count.Goals as goal

pub returns-then-count-gt0-clause-missed : goal.returns-then-count-gt0-clause-missed
returns-then-count-gt0-clause-missed g c = λ is also.
    c.screened_count-count.ensures.missed c.args.first.now c.args.order is

pub returns-then-other-gt0-clause-missed : goal.returns-then-other-gt0-clause-missed
returns-then-other-gt0-clause-missed g c = λ is also.
    missed_then c.screened_count-count.ensures.keeps
    (c.screened_count-other.ensures.missed c.args.first.now c.args.order also)

pub returns-clause-missed : goal.returns-clause-missed
returns-clause-missed g c = λ is also.
    missed_then (keeps_all c.screened_count-count.ensures.keeps c.screened_count-other.ensures.keeps)
    c.one_failing.ensures.missed
