use Rattle.run_parts.proofs.Sayings.{ends_says}
use Rattle.poke_batch.proofs.run.run_bound.Goals as goal

pub returns : goal.returns
returns g c = ends_says _ c.bound_outcome.result _ _ _ _ _ c.bound_outcome.ensures c.tell.ensures
