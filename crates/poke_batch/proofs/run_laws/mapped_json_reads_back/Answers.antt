use Rattle.poke_batch.proofs.RunLaws.{mapped_json}
use Rattle.poke_batch.proofs.run_laws.mapped_json_reads_back.Goals as goal

-- src/run_laws.rt
pub returns : goal.returns
returns c = record { law = mapped_json }
