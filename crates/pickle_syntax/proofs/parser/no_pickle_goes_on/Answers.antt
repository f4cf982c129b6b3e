use Rattle.pickle_syntax.proofs.Telling.{same_place, none_goes_on}
use Rattle.pickle_syntax.proofs.parser.no_pickle_goes_on.Goals as goal

pub returns : goal.returns
returns c = record { same = same_place; none = none_goes_on }
