use Rattle.run_parts.proofs.Sayings.{ends_says}
use Rattle.poke_batch.proofs.run.run_check.Goals as goal

pub returns : goal.returns
returns g c = ends_says _ c.check_outcome.result _ _ _ _ _ c.check_outcome.ensures c.tell.ensures
