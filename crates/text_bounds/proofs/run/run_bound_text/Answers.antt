use Rattle.run_parts.proofs.Sayings.{ends_says}
use Rattle.text_bounds.proofs.run.run_bound_text.Goals as goal

pub returns : goal.returns
returns g c = ends_says _ c.bound_text_outcome.result _ _ _ _ _ c.bound_text_outcome.ensures c.tell.ensures
