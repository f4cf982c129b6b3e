use Rattle.poke_batch.proofs.ClearValues.{members_few}
use Rattle.poke_batch.proofs.run_laws.mapped_members_are_few.Goals as goal

-- src/run_laws.rt
pub returns : goal.returns
returns c = record { law = members_few }
