use Rattle.std.proofs.Common.{◌≡◌, ◌+◌}
use Rattle.pickle_evaluation.proofs.expression.take_steps.Given as goal

abbrev pub invariant-loop : goal.invariant-loop
invariant-loop l = record {
  limit : l.meter.limit ≡ l.initial.meter.limit;
  made : l.meter.made ≡ l.initial.meter.made;
  steps : l.meter.steps ≡ l.initial.meter.steps + l.counter;
}
