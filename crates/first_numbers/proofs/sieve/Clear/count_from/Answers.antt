use Rattle.std.proofs.Common.{arith}
use Rattle.first_numbers.proofs.Screened.{steps_clear}
use Rattle.first_numbers.proofs.sieve.Clear.count_from.Goals as goal

pub returns : goal.returns
returns c k lt =
    steps_clear c.args.self.now c.args.start c.args.step k (c.has.ensures c.if-not-has.false) c.requires
    (omega (arith, c.if-step-ne0.false)) (omega (arith, lt, c.div_ceil.ensures))
