use Rattle.scope_laws.proofs.laws.records_are_an_array.Goals as goal
use Rattle.scope_laws.proofs.Records.{records_array}

-- src/laws.rt
pub returns : goal.returns
returns c = record { law = records_array }
