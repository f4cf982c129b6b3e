use Rattle.text_bounds.proofs.BoundedParts.{styled_bounded}
use Rattle.text_bounds.proofs.laws.styled_texts_are_bounded.Goals as goal

-- src/laws.rt
pub returns : goal.returns
returns c = record { law = styled_bounded }
