use Rattle.poke_batch.proofs.SelectedLaws.{cells}
use Rattle.poke_batch.proofs.run_laws.cells_are_parts.Goals as goal

pub returns : goal.returns
returns c = record { law = cells }
