use Rattle.std.proofs.Common.{subst, sym}
use Rattle.first_numbers.specs.Screens.{ScreensIn}
use Rattle.first_numbers.proofs.sieve.second_screen.Goals as goal

pub returns-in-Tests : goal.returns-in-Tests
returns-in-Tests c = subst (λ l. ScreensIn l c.second_of.result c.args.order) (sym c.in-Tests.is) c.second_of.ensures
