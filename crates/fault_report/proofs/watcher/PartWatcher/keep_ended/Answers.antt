-- The array ended by the fault that was taken.
use Rattle.std.proofs.Common.{◌≡◌, rules}
use Rattle.std.proofs.lemmas.Result.{IfOk-weaker}
use Rattle.fault_report.proofs.watcher.PartWatcher.keep_ended.Goals as goal

pub returns-clause-ends : goal.returns-clause-ends
returns-clause-ends c = IfOk-weaker c.add.result _ _ (λ done added. record {
  of = c.in_ok-fault.fault;
  under_way = c.in_ok-fault.ensures.taken;
  ended = record {
    array = c.in_ok-array.array;
    count = c.saturating_sub.result;
    way = c.in_ok-fault.fault.way;
    stop = c.in_ok-fault.fault.stop;
  };
  array = search rules;
  count = search rules;
  way = search rules;
  stop = search rules;
  adds = search rules;
  fault = search rules;
  mismatches = search rules;
}) c.add.ensures
