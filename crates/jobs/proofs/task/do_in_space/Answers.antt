use Rattle.std.proofs.Common.{refl, sym, arith}
use Rattle.std.proofs.KnownBytes.{Keeps-refl}
use Rattle.jobs.specs.Tasks.{no_part, no_type}
use Rattle.jobs.proofs.Holding.{if_not_some, no_text}
use Rattle.jobs.proofs.Tasked.{task_holds}
use Rattle.jobs.proofs.task.do_in_space.Goals as goal

pub returns-in-Err-clause-does : goal.returns-in-Err-clause-does
returns-in-Err-clause-does g c = record {
  after = g.S.Space.view c.args.space.now;
  failures = omega arith;
  holds = no_text _ _ _ _ (no_type (rw (sym c.deref.ensures.value) c.in-Err.ensures.none))
      (Keeps-refl _);
}

pub returns-in-Some-clause-does : goal.returns-in-Some-clause-does
returns-in-Some-clause-does g c = record {
  after = g.S.Space.view c.args.space.now;
  failures = omega arith;
  holds = no_text _ _ _ _
      (no_part c.in-Some.ensures.own (rw (sym c.deref.ensures.value) c.in-Ok.ensures.asked) c.in-Some.ensures.some)
      (Keeps-refl _);
}

pub returns-clause-does : goal.returns-clause-does
returns-clause-does g c =
    let does = c.do_run.ensures.does (rw (sym c.deref.ensures.value) c.in-Ok.ensures.asked) in
    record {
      after = does.after;
      failures = does.failures;
      holds = task_holds _ _ _ _ _ _ _ _ _ _ does.holds
          (record {
            asked = rw (sym c.deref.ensures.value) c.in-Ok.ensures.asked;
            ask_is = refl;
            terms_are = refl;
            can_have = if_not_some c.refuse_own_parts.result c.in_default.not-Some c.refuse_own_parts.ensures.none;
          });
    }
