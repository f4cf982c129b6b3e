use Rattle.scope_laws.proofs.laws.elements_are_local.Goals as goal
use Rattle.scope_laws.proofs.Declared.{elements_local}

-- src/laws.rt
pub returns : goal.returns
returns c = record { law = elements_local }
