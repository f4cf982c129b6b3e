use Rattle.fault_report.specs.Why.{no_more}
use Rattle.fault_report.proofs.lines.arrays_text.Goals as goal

pub say_endings-requires-clause-said : goal.say_endings-requires-clause-said
say_endings-requires-clause-said c = rw c.new.ensures no_more
