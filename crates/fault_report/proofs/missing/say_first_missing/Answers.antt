use Rattle.fault_report.specs.Why.{tells_missing}
use Rattle.fault_report.proofs.missing.say_first_missing.Goals as goal

pub returns : goal.returns
returns c = tells_missing _ _ c.in_ok-text.ensures
