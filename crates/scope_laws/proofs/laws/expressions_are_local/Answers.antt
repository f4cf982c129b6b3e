use Rattle.scope_laws.proofs.laws.expressions_are_local.Goals as goal
use Rattle.scope_laws.proofs.Expressions.{expressions_local}

-- src/laws.rt
pub returns : goal.returns
returns c = record { law = expressions_local }
