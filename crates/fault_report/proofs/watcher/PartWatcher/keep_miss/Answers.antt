-- The alternative that is added doesn't match by the fault that was taken.
use Rattle.std.proofs.Common.{◌≡◌, rules}
use Rattle.std.proofs.lemmas.Result.{IfOk-weaker}
use Rattle.fault_report.proofs.watcher.PartWatcher.keep_miss.Goals as goal

pub returns-clause-misses : goal.returns-clause-misses
returns-clause-misses c = IfOk-weaker c.add_fault.result _ _ (λ done added. record {
  of = c.in_ok-fault.fault;
  under_way = c.in_ok-fault.ensures.taken;
  mismatches = rw (
    c.depth.ensures,
    c.forget_ended.ensures.stays.trail,
    c.take.ensures.stays.trail,
    c.forget_ended.ensures.mismatches,
    c.take.ensures.stays.mismatches,
  ) at added;
  ended = search rules;
  fault = search rules;
}) c.add_fault.ensures
