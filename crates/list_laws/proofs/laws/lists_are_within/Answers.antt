use Rattle.list_laws.proofs.Within.{lists_within}
use Rattle.list_laws.proofs.laws.lists_are_within.Goals as goal

pub returns : goal.returns
returns c = record { law = lists_within }
