use Rattle.std.proofs.Common.{ap}
use Rattle.std.specs.Prelude.{not}
use Rattle.pickle_evaluation.proofs.Signed.{zero_test}
use Rattle.pickle_evaluation.proofs.integers.is_true.Goals as goal

pub returns : goal.returns
returns c = ap not (zero_test c.args.x c.ranges.x)
