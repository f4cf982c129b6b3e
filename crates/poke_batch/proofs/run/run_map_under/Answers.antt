use Rattle.run_parts.proofs.Sayings.{ends_says}
use Rattle.poke_batch.proofs.run.run_map_under.Goals as goal

pub returns-clause-says : goal.returns-clause-says
returns-clause-says g c = ends_says _ c.map_outcome.result _ _ _ _ _ c.map_outcome.ensures.ends c.tell.ensures
