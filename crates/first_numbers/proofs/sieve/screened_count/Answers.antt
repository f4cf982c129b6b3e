-- `screened_count`: those of the screen.
use Rattle.std.proofs.Common.{IfSome, subst}
use Rattle.first_numbers.specs.Screens.{IsScreen}
use Rattle.first_numbers.proofs.sieve.screened_count.Goals as goal

pub returns-in-Some-clause-missed : goal.returns-in-Some-clause-missed
returns-in-Some-clause-missed g c = λ held order is.
    c.ruled_count.ensures.missed held order (subst (λ screen. IfSome screen (IsScreen held order)) c.in-Some.is is)
