use Rattle.memory_bounds.proofs.Refused.{nothing_refused}
use Rattle.memory_bounds.proofs.laws.nothing_is_refused.Goals as goal

pub returns : goal.returns
returns c = record { law = nothing_refused c.memory_lacks_capacity.ensures.law }
