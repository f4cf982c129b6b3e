use Rattle.scope_laws.proofs.laws.records_end_as_arrays.Goals as goal
use Rattle.scope_laws.proofs.Records.{records_end}

-- src/laws.rt
pub returns : goal.returns
returns c = record { law = records_end }
