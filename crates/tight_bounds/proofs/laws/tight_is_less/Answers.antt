use Rattle.tight_bounds.proofs.laws.tight_is_less.Goals as goal
use Rattle.tight_bounds.proofs.Tighter.{tight_less}

-- src/laws.rt
pub returns : goal.returns
returns c = record { law = tight_less }
