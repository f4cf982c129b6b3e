use Rattle.csv_text.proofs.Plain.{cells_hold}
use Rattle.csv_text.proofs.laws.cells_hold_values.Goals as goal

pub returns : goal.returns
returns c = record { law = cells_hold }
