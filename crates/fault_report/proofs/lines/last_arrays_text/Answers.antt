use Rattle.fault_report.specs.Why.{no_more}
use Rattle.fault_report.proofs.lines.last_arrays_text.Goals as goal

pub say_last_endings-requires-clause-said : goal.say_last_endings-requires-clause-said
say_last_endings-requires-clause-said c = rw c.new-text.ensures no_more

pub returns-then-from-end : goal.returns-then-from-end
returns-then-from-end c = record { arrays = rw c.new-text.ensures no_more }
