use Rattle.value_text.proofs.PlainTexts.{prints_plain}
use Rattle.value_text.proofs.laws.prints_plain.Goals as goal

-- src/laws.rt
pub returns : goal.returns
returns c = record { law = prints_plain }
