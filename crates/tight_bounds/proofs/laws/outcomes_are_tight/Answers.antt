use Rattle.tight_bounds.proofs.laws.outcomes_are_tight.Goals as goal
use Rattle.tight_bounds.proofs.Tighter.{outcomes_tight}

-- src/laws.rt
pub returns : goal.returns
returns c = record { law = outcomes_tight }
