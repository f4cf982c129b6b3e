-- `missed_run`: none where the file is too short, and else those of one read.
use Rattle.std.proofs.Common.{arith}
use Rattle.first_numbers.proofs.Screened.{none_missed}
use Rattle.first_numbers.proofs.screen.Screen.missed_run.Goals as goal

pub returns-then-self-clause-missed : goal.returns-then-self-clause-missed
returns-then-self-clause-missed g c = λ held order is.
    none_missed held (g.S.Space.view c.args.space.now) order c.args.at _ _ (omega arith)
