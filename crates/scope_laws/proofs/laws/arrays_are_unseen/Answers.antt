use Rattle.scope_laws.proofs.laws.arrays_are_unseen.Goals as goal
use Rattle.scope_laws.proofs.Declared.{arrays_unseen_in}

-- src/laws.rt
pub returns : goal.returns
returns c = record { law = arrays_unseen_in }
