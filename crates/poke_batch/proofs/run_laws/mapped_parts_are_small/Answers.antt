use Rattle.poke_batch.proofs.RunLaws.{parts_small}
use Rattle.poke_batch.proofs.run_laws.mapped_parts_are_small.Goals as goal

-- src/run_laws.rt
pub returns : goal.returns
returns c = record { law = parts_small }
