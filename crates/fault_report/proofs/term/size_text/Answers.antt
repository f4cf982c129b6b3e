use Rattle.fault_report.specs.Why.{tells_size}
use Rattle.fault_report.proofs.term.size_text.Goals as goal

pub returns : goal.returns
returns c = tells_size _ c.in_ok-text.ensures
