use Rattle.std.proofs.Common.{length}
use Rattle.fault_report.proofs.absent.say_absent.Given as goal

abbrev pub decreases-loop-step : goal.decreases-loop-step
decreases-loop-step l = length l.left
