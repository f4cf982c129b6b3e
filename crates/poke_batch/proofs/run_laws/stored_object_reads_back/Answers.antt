use Rattle.poke_batch.proofs.ObjectLaws.{stored_object}
use Rattle.poke_batch.proofs.run_laws.stored_object_reads_back.Goals as goal

-- src/run_laws.rt
pub returns : goal.returns
returns c = record { law = stored_object }
