use Rattle.poke_batch.proofs.RunLaws.{styled_part_json}
use Rattle.poke_batch.proofs.run_laws.styled_part_json_reads_back.Goals as goal

-- src/run_laws.rt
pub returns : goal.returns
returns c = record { law = styled_part_json }
