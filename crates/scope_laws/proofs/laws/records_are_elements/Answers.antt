use Rattle.scope_laws.proofs.laws.records_are_elements.Goals as goal
use Rattle.scope_laws.proofs.Records.{records_elements}

-- src/laws.rt
pub returns : goal.returns
returns c = record { law = records_elements }
