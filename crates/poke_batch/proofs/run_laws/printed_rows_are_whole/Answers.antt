use Rattle.poke_batch.proofs.SelectedLaws.{rows_whole}
use Rattle.poke_batch.proofs.run_laws.printed_rows_are_whole.Goals as goal

pub returns : goal.returns
returns c = record { law = rows_whole }
