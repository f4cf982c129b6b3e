use Rattle.std.proofs.Common.{subst, sym}
use Rattle.first_numbers.specs.Screens.{PassesOver, unread}
use Rattle.first_numbers.proofs.Screened.{screen_passes}
use Rattle.first_numbers.proofs.sieve.layout_screen.Goals as goal

pub returns-in-Tests : goal.returns-in-Tests
returns-in-Tests c = λ space.
    subst (λ l. PassesOver l c.of.result space c.args.order unread) (sym c.in-Tests.is)
    (screen_passes c.in-Tests.first c.args.order c.of.result space c.of.ensures)
