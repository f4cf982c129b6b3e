use Rattle.run_parts.proofs.Sayings.{ends_says}
use Rattle.run_parts.proofs.types.run_types.Goals as goal

pub returns : goal.returns
returns g c = ends_says _ c.types_outcome.result _ _ _ _ _ c.types_outcome.ensures c.tell.ensures
