use Rattle.text_bounds.proofs.BoundedParts.{part_text_bounded}
use Rattle.text_bounds.proofs.laws.part_texts_are_bounded.Goals as goal

-- src/laws.rt
pub returns : goal.returns
returns c = record { law = part_text_bounded }
