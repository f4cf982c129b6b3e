use Rattle.run_parts.specs.Accepted.{no_memory}
use Rattle.run_parts.specs.declared.outcome.Failure.TheVariants.{Memory}
use Rattle.run_parts.specs.declared.outcome.Outcome.TheVariants.{Failed}
use Rattle.run_parts.proofs.Sayings.{line_ends, text_ends}
use Rattle.tight_bounds.specs.TightRuns.{tight_text, tight_bounds, refused_tight_bounds}
use Rattle.tight_bounds.proofs.run.tight_found.Goals as goal

pub returns-in-Ok : goal.returns-in-Ok
returns-in-Ok g c = λ pickle name declarations types accepted found.
    text_ends _ (tight_text c.in-Ok.both) c.answer.result _ _ c.put_both_bounds.result
    (tight_bounds c.in-Ok.both accepted found c.in-Ok.ensures)
    c.put_both_bounds.ensures.ok c.put_both_bounds.ensures.err c.answer.ensures.done c.answer.ensures.failed

pub returns-in-Err : goal.returns-in-Err
returns-in-Err g c = λ pickle name declarations types accepted found.
    line_ends _ (Failed Memory) _ (refused_tight_bounds no_memory)
