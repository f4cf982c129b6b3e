use Rattle.run_parts.specs.Accepted.{no_memory}
use Rattle.run_parts.specs.BoundText.{bound_text_and}
use Rattle.run_parts.specs.declared.outcome.Failure.TheVariants.{Memory}
use Rattle.run_parts.specs.declared.outcome.Outcome.TheVariants.{Failed}
use Rattle.text_bounds.specs.TextRuns.{text_bounds, refused_text_bounds}
use Rattle.run_parts.proofs.Sayings.{line_ends, text_ends}
use Rattle.text_bounds.proofs.run.bound_found.Goals as goal

pub returns-in-Ok : goal.returns-in-Ok
returns-in-Ok g c = λ pickle name asked.
    text_ends _ (bound_text_and c.in-Ok.all.steps c.in-Ok.all.slots c.in-Ok.all.text) c.answer.result _ _
    c.put_bounds_and_text.result
    (text_bounds _ _ _ asked.accepted asked.found c.in-Ok.ensures.steps c.in-Ok.ensures.slots c.in-Ok.ensures.text)
    c.put_bounds_and_text.ensures.ok c.put_bounds_and_text.ensures.err c.answer.ensures.done c.answer.ensures.failed

pub returns-in-Err : goal.returns-in-Err
returns-in-Err g c = λ pickle name asked. line_ends _ (Failed Memory) _ (refused_text_bounds no_memory)
