use Rattle.std.proofs.Common.{◌+◌, ◌*◌}
use Rattle.pickle_types.specs.Table.{term_of}
use Rattle.pickle_evaluation.proofs.Sizes.{term_size}
use Rattle.pickle_evaluation.proofs.truths.+evaluate_truth.Given as goal

abbrev pub decreases-evaluate_truth : goal.decreases-evaluate_truth
decreases-evaluate_truth l = 3 * term_size (term_of l.e.now)

abbrev pub decreases-operand_truth : goal.decreases-operand_truth
decreases-operand_truth l = 3 * term_size (term_of l.e.now) + 1

abbrev pub decreases-logic : goal.decreases-logic
decreases-logic l = 3 * (term_size (term_of l.a.now) + term_size (term_of l.b.now)) + 2
