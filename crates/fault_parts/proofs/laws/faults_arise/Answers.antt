use Rattle.fault_parts.proofs.laws.faults_arise.Goals as goal
use Rattle.fault_parts.proofs.Faults.{faults_arise}

-- src/laws.rt
pub returns : goal.returns
returns c = record { law = faults_arise }
