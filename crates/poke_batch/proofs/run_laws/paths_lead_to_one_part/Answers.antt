use Rattle.poke_batch.proofs.SelectedLaws.{one_part}
use Rattle.poke_batch.proofs.run_laws.paths_lead_to_one_part.Goals as goal

pub returns : goal.returns
returns c = record { law = one_part }
