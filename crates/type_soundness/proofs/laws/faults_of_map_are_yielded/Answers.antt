use Rattle.type_soundness.proofs.laws.faults_of_map_are_yielded.Goals as goal
use Rattle.type_soundness.proofs.Answered.{faults_of_map}

-- src/laws.rt
pub returns : goal.returns
returns c = record { law = faults_of_map }
