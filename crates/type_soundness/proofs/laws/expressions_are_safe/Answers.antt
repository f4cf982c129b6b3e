use Rattle.type_soundness.proofs.laws.expressions_are_safe.Goals as goal
use Rattle.type_soundness.proofs.Safe.{safe}

-- src/laws.rt
pub returns : goal.returns
returns c = record { law = safe }
