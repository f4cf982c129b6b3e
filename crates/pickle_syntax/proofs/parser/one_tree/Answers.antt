use Rattle.pickle_syntax.proofs.Parsed.{pickle_once}
use Rattle.pickle_syntax.proofs.parser.one_tree.Goals as goal

pub returns : goal.returns
returns c = pickle_once
