use Rattle.std.proofs.Common.{arith}
use Rattle.identification.proofs.Answered.{root_given, value_meant, fault_excludes}
use Rattle.identification.proofs.attempt.try_type.Goals as goal

pub returns-in-Ok-clause-ok : goal.returns-in-Ok-clause-ok
returns-in-Ok-clause-ok g c bytes known =
    let given = c.in-Ok.ensures.value bytes known in
    record {
      value = given.value;
      maps = record { steps = _; made = _; means = value_meant given.holds };
      is = c.measure.ensures given.value (root_given given);
    }

pub returns-then-ends_run-clause-err : goal.returns-then-ends_run-clause-err
returns-then-ends_run-clause-err g c =
    let none = c.new-meter.ensures.steps in
    let most = c.new-meter.ensures.limit in
    record {
      ends = c.ends_run.ensures.ends c.if-ends_run.true;
      device = c.in-Err.ensures.device;
      limit = λ e. let over = (c.in-Err.ensures.limit e).1 in omega (arith, none, most, over);
    }

pub returns-clause-ok : goal.returns-clause-ok
returns-clause-ok g c bytes known =
    fault_excludes _ c.in-Err.fault.kind c.in-Err.fault.at _ _ (c.ends_run.ensures.is c.if-ends_run.false)
    (c.in-Err.ensures.fault bytes known)
