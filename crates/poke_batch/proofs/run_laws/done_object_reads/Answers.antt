use Rattle.poke_batch.proofs.ObjectLaws.{object_reads}
use Rattle.poke_batch.proofs.run_laws.done_object_reads.Goals as goal

-- src/run_laws.rt
pub returns : goal.returns
returns c = record { law = object_reads }
