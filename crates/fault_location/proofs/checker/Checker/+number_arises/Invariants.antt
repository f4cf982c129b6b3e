use Rattle.std.proofs.Common.{length}
use Rattle.fault_location.proofs.checker.Checker.+number_arises.Given as goal

abbrev pub decreases-number_arises : goal.decreases-number_arises
decreases-number_arises l = length l.path.now
