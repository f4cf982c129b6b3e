use Rattle.tight_bounds.proofs.laws.slots_are_tight.Goals as goal
use Rattle.tight_bounds.proofs.SlotsTight.{slots_tight}

-- src/laws.rt
pub returns : goal.returns
returns c = record { law = slots_tight }
