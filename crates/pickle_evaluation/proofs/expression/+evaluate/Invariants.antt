use Rattle.std.proofs.Common.{◌+◌, ◌*◌}
use Rattle.pickle_types.specs.Table.{term_of}
use Rattle.pickle_evaluation.proofs.Sizes.{term_size}
use Rattle.pickle_evaluation.proofs.expression.+evaluate.Given as goal

abbrev pub decreases-evaluate : goal.decreases-evaluate
decreases-evaluate l = 3 * term_size (term_of l.e.now) + 1

abbrev pub decreases-look : goal.decreases-look
decreases-look l = 3 * term_size (term_of l.e.now) + 2

abbrev pub decreases-apply : goal.decreases-apply
decreases-apply l = 3 * term_size (term_of l.e.now)

abbrev pub decreases-infix : goal.decreases-infix
decreases-infix l = 3 * (term_size (term_of l.a.now) + term_size (term_of l.b.now)) + 3

abbrev pub decreases-choice : goal.decreases-choice
decreases-choice l = 3 * (term_size (term_of l.c.now) + (term_size (term_of l.x.now) + term_size (term_of l.y.now))) + 3

abbrev pub decreases-index : goal.decreases-index
decreases-index l = 3 * (term_size (term_of l.e.now) + term_size (term_of l.i.now)) + 3
