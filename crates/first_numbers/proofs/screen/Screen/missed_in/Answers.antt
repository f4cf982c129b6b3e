-- `missed_in`: the bytes that were read rule out these starts, and none if the read fails.
use Rattle.std.proofs.Common.{arith}
use Rattle.first_numbers.proofs.Screened.{none_missed, run_missed}
use Rattle.first_numbers.proofs.screen.Screen.missed_in.Goals as goal

pub returns-in-Ok-clause-missed : goal.returns-in-Ok-clause-missed
returns-in-Ok-clause-missed g c = λ held order is.
    let size = c.read_at.auto.into in
    run_missed held order c.args.self.now (g.S.Space.view c.args.space.now) c.args.at _ c.leading.result _ is
    (g.met.S.Space.whole c.args.space.now) c.requires.inside c.in-Ok.ensures.bytes size
    (omega (arith, c.leading.ensures.few, size)) c.leading.ensures.fail

pub returns-in-Err-clause-missed : goal.returns-in-Err-clause-missed
returns-in-Err-clause-missed g c = λ held order is.
    none_missed held (g.S.Space.view c.args.space.now) order c.args.at _ _ (omega arith)
