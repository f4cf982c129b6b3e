use Rattle.value_text.proofs.LeafLines.{lines_name_parts}
use Rattle.value_text.proofs.laws.lines_name_parts.Goals as goal

-- src/laws.rt
pub returns : goal.returns
returns c = record { law = lines_name_parts }
