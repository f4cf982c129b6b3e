use Rattle.poke_batch.proofs.RunLaws.{part_json_back}
use Rattle.poke_batch.proofs.run_laws.part_json_reads_back.Goals as goal

-- src/run_laws.rt
pub returns : goal.returns
returns c = record { law = part_json_back }
