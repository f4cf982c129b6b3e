use Rattle.text_bounds.proofs.BoundedOutputs.{output_under_terms_bounded}
use Rattle.text_bounds.proofs.laws.outputs_under_terms_are_bounded.Goals as goal

-- src/laws.rt
pub returns : goal.returns
returns c = record { law = output_under_terms_bounded }
