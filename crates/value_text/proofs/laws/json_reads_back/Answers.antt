use Rattle.value_text.proofs.StyledJsonValues.{json_reads_back}
use Rattle.value_text.proofs.laws.json_reads_back.Goals as goal

-- src/laws.rt
pub returns : goal.returns
returns c = record { law = json_reads_back }
