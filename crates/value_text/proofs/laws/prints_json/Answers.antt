use Rattle.value_text.proofs.StyledJsonValues.{prints_json}
use Rattle.value_text.proofs.laws.prints_json.Goals as goal

-- src/laws.rt
pub returns : goal.returns
returns c = record { law = prints_json }
