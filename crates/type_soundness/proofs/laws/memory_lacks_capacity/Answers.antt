use Rattle.type_soundness.proofs.laws.memory_lacks_capacity.Goals as goal
use Rattle.type_soundness.proofs.Lacking.{memory_lacks}

-- src/laws.rt
pub returns : goal.returns
returns c = record { law = memory_lacks }
