use Rattle.scope_laws.proofs.laws.declared_types_are_closed.Goals as goal
use Rattle.scope_laws.proofs.Declared.{declared_closed}

-- src/laws.rt
pub returns : goal.returns
returns c = record { law = declared_closed }
