use Rattle.run_parts.specs.Accepted.{no_memory}
use Rattle.run_parts.specs.BoundText.{bound_text}
use Rattle.run_parts.specs.declared.outcome.Failure.TheVariants.{Memory}
use Rattle.run_parts.specs.declared.outcome.Outcome.TheVariants.{Failed}
use Rattle.poke_batch.specs.Runs.{bounds, refused_bounds}
use Rattle.run_parts.proofs.Sayings.{line_ends, text_ends}
use Rattle.poke_batch.proofs.Unresolved.{bounds_unresolved}
use Rattle.poke_batch.proofs.run.bound_outcome.Goals as goal

pub returns-in-Err : goal.returns-in-Err
returns-in-Err g c =
    bounds_unresolved c.args.pickle.now c.args.name.now c.args.bits _ c.in-Err.outcome c.in-Err.ensures.none

pub returns-in-Ok-bounds : goal.returns-in-Ok-bounds
returns-in-Ok-bounds g c =
    let asked = c.in-Ok.ensures.asked in
    text_ends _ (bound_text c.in-Ok-bounds.bounds.steps c.in-Ok-bounds.bounds.slots) c.answer.result _ _
    c.put_bounds.result
    (bounds _ _ asked.accepted asked.found c.in-Ok-bounds.ensures.steps c.in-Ok-bounds.ensures.slots)
    c.put_bounds.ensures.ok c.put_bounds.ensures.err c.answer.ensures.done c.answer.ensures.failed

pub returns : goal.returns
returns g c = line_ends _ (Failed Memory) _ (refused_bounds no_memory)
