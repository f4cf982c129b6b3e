-- `failing_run`: one start after another fails, up to the first that isn't known to.
use Rattle.std.proofs.Common.{arith}
use Rattle.bit_space.proofs.Failures.{keeps_all}
use Rattle.first_numbers.proofs.Screened.{missed_on, missed_then, none_missed}
use Rattle.first_numbers.proofs.sieve.failing_run.Goals as goal

pub loop-to-init : goal.loop-to-init
loop-to-init g c = record {
  keeps = c.likely_steps-steps.ensures.keeps;
  missed = λ is also. none_missed c.args.first.now (g.S.Space.view c.args.space.now) c.args.order c.args.at c.args.at _
      (omega arith);
}

pub loop-to-preserved : goal.loop-to-preserved
loop-to-preserved g c =
    let so_far = c.loop-to.invariant in
    record {
      keeps = keeps_all so_far.keeps c.failing_count-more.ensures.keeps;
      missed = λ is also.
          missed_on (so_far.missed is also)
          (missed_then so_far.keeps (c.failing_count-more.ensures.missed is also));
    }
