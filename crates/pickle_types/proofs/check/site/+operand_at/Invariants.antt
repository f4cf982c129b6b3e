use Rattle.std.proofs.Common.{length}
use Rattle.pickle_types.proofs.check.site.+operand_at.Given as goal

abbrev pub decreases-operand_at : goal.decreases-operand_at
decreases-operand_at l = length l.numbers.now
