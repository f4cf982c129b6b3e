use Rattle.fault_parts.proofs.laws.arising_is_meant.Goals as goal
use Rattle.fault_parts.proofs.Meant.{arising_meant}

-- src/laws.rt
pub returns : goal.returns
returns c = record { law = arising_meant }
