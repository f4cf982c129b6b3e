use Rattle.pickle_syntax.proofs.PicklesGoOn.{before_token, at_end, soon}
use Rattle.pickle_syntax.proofs.parser.some_pickle_goes_on.Goals as goal

pub returns : goal.returns
returns c = record { before = before_token; end = at_end; short = soon }
