use Rattle.std.proofs.Common.{refl, subst, sym}
use Rattle.first_numbers.specs.Screens.{MissesIn}
use Rattle.first_numbers.proofs.sieve.read_miss.Goals as goal

pub returns-in_ok-steps-in-Tests-clause-missed : goal.returns-in_ok-steps-in-Tests-clause-missed
returns-in_ok-steps-in-Tests-clause-missed g c =
    subst (λ l. MissesIn l (g.S.Space.view c.args.space.now) c.args.order c.args.start c.args.allowed
    (record { distance = c.in-Tests.first.fault; steps = c.in_ok-steps-in-Tests.steps }))
    (sym c.in-Tests.is) (refl, c.in_ok-steps-in-Tests.ensures.missed)
