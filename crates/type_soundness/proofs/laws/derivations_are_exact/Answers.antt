use Rattle.type_soundness.proofs.laws.derivations_are_exact.Goals as goal
use Rattle.type_soundness.proofs.Exact.{exact}

-- src/laws.rt
pub returns : goal.returns
returns c = record { law = λ levels e r k h. exact levels h }
