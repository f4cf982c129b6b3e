use Rattle.type_parts.proofs.PartsLaw.{only_its_parts}
use Rattle.type_parts.proofs.laws.has_only_its_parts.Goals as goal

-- src/laws.rt
pub returns : goal.returns
returns c = record { law = only_its_parts }
