use Rattle.text_bounds.proofs.BoundedTexts.{text_bounded}
use Rattle.text_bounds.proofs.laws.texts_are_bounded.Goals as goal

-- src/laws.rt
pub returns : goal.returns
returns c = record { law = text_bounded }
