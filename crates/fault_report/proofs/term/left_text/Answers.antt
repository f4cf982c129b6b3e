use Rattle.fault_report.specs.Why.{tells_room}
use Rattle.fault_report.proofs.term.left_text.Goals as goal

pub returns : goal.returns
returns c = tells_room _ c.in_ok-text.ensures
