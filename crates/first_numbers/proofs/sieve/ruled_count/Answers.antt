-- `ruled_count`: the screen's steps are these.
use Rattle.std.proofs.Common.{◌+◌, ℕ, subst}
use Rattle.first_numbers.specs.Screens.{AreMissed}
use Rattle.first_numbers.proofs.sieve.ruled_count.Goals as goal

pub returns-then-screen-steps-clause-missed : goal.returns-then-screen-steps-clause-missed
returns-then-screen-steps-clause-missed g c = λ held order is.
    subst (λ (steps : ℕ). AreMissed held (g.S.Space.view c.args.space.now) order c.args.at
    (c.args.at + c.missed_run.result) steps) c.if-screen-steps.true (c.missed_run.ensures.missed held order is)
