use Rattle.scope_laws.proofs.laws.types_are_local.Goals as goal
use Rattle.scope_laws.proofs.Declared.{types_local}

-- src/laws.rt
pub returns : goal.returns
returns c = record { law = types_local }
