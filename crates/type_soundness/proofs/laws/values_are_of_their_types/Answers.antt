use Rattle.type_soundness.proofs.laws.values_are_of_their_types.Goals as goal
use Rattle.type_soundness.proofs.Values.{value_is}

-- src/laws.rt
pub returns : goal.returns
returns c = record { law = λ t bits order levels s v k j m. value_is m }
