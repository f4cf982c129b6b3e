use Rattle.type_soundness.proofs.laws.fitting_values_are_of_their_types.Goals as goal
use Rattle.type_soundness.proofs.Fitting.{value_fits}

-- src/laws.rt
pub returns : goal.returns
returns c = record { law = λ t m levels s v h. value_fits m t levels s v h }
