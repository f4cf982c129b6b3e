use Rattle.tight_bounds.proofs.laws.answers_are_outcomes.Goals as goal
use Rattle.tight_bounds.proofs.Tighter.{answers_outcomes}

-- src/laws.rt
pub returns : goal.returns
returns c = record { law = answers_outcomes }
