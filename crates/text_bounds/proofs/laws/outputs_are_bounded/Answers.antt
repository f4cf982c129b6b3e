use Rattle.text_bounds.proofs.BoundedTexts.{output_bounded}
use Rattle.text_bounds.proofs.laws.outputs_are_bounded.Goals as goal

-- src/laws.rt
pub returns : goal.returns
returns c = record { law = output_bounded }
