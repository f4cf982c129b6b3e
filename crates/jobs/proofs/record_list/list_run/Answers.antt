use Rattle.std.proofs.Common.{arith}
use Rattle.std.proofs.KnownBytes.{Keeps-refl}
use Rattle.jobs.specs.Tasks.{headed_due, inner_due, no_head, values_due}
use Rattle.jobs.proofs.Holding.{holds_more, no_text}
use Rattle.jobs.proofs.record_list.list_run.Goals as goal

pub returns-in-Values-clause-lists : goal.returns-in-Values-clause-lists
returns-in-Values-clause-lists g c = rw c.in-Values.is (λ asked.
    let does = c.list_values.ensures.lists asked in
    record {
      after = does.after;
      failures = does.failures;
      holds = holds_more _ _ _ _ _ (λ lines end due. values_due due) does.holds;
    })

pub returns-in-Path-clause-lists : goal.returns-in-Path-clause-lists
returns-in-Path-clause-lists g c = rw c.in-Path.is (λ asked.
    let does = c.list_inside.ensures.lists asked in
    record {
      after = does.after;
      failures = does.failures;
      holds = holds_more _ _ _ _ _ (λ lines end due. inner_due due) does.holds;
    })

pub returns-in-Ok-clause-lists : goal.returns-in-Ok-clause-lists
returns-in-Ok-clause-lists g c = rw c.in-Head.is (λ asked.
    let does = c.list_inside-in-Ok.ensures.lists asked in
    record {
      after = does.after;
      failures = does.failures;
      holds = holds_more _ _ _ _ _ (λ lines end due. headed_due c.in-Ok.ensures.ok due) does.holds;
    })

pub returns-in-Err-clause-lists : goal.returns-in-Err-clause-lists
returns-in-Err-clause-lists g c = rw c.in-Head.is (λ asked. record {
  after = g.S.Space.view c.args.space.now;
  failures = omega arith;
  holds = no_text _ _ _ _ (no_head c.in-Err.ensures.err) (Keeps-refl _);
})
