use Rattle.pickle_syntax.proofs.ExpressionsAgain.{show_once}
use Rattle.pickle_syntax.proofs.parser.one_expression.Goals as goal

pub returns : goal.returns
returns c = show_once
