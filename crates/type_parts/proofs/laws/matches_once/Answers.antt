use Rattle.type_parts.proofs.TwiceLaw.{matches_once}
use Rattle.type_parts.proofs.laws.matches_once.Goals as goal

-- src/laws.rt
pub returns : goal.returns
returns c = record { law = matches_once }
