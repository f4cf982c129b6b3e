use Rattle.poke_batch.proofs.ClearPaths.{paths_lead}
use Rattle.poke_batch.proofs.run_laws.paths_lead_to_parts.Goals as goal

-- src/run_laws.rt
pub returns : goal.returns
returns c = record { law = paths_lead }
