use Rattle.poke_batch.proofs.ClearValues.{paths_clear}
use Rattle.poke_batch.proofs.run_laws.mapped_paths_are_clear.Goals as goal

-- src/run_laws.rt
pub returns : goal.returns
returns c = record { law = paths_clear }
