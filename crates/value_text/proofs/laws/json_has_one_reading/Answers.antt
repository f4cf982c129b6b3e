use Rattle.value_text.proofs.JsonReading.{one_reading}
use Rattle.value_text.proofs.laws.json_has_one_reading.Goals as goal

-- src/laws.rt
pub returns : goal.returns
returns c = record { law = one_reading }
