use Rattle.fault_report.specs.Why.{no_array}
use Rattle.fault_report.proofs.lines.last_line.Goals as goal

pub returns-else-is_stopped_from : goal.returns-else-is_stopped_from
returns-else-is_stopped_from c = record { array = rw c.new.ensures no_array }
