use Rattle.pickle_map.proofs.again.wants_no_more.Goals as goal
use Rattle.pickle_map.proofs.Repeated.{wants_no_more}

-- src/again.rt
pub returns : goal.returns
returns c = record { law = wants_no_more }
