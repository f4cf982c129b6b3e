use Rattle.pickle_types.proofs.Rules.{greatest_divisor_is}
use Rattle.pickle_types.proofs.laws.greatest_divisor_is_greatest.Goals as goal

pub returns : goal.returns
returns c = record { law = greatest_divisor_is }
