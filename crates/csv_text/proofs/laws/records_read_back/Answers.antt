use Rattle.csv_text.proofs.Reading.{record_read}
use Rattle.csv_text.proofs.laws.records_read_back.Goals as goal

pub returns : goal.returns
returns c = record { law = record_read }
