use Rattle.run_parts.specs.declared.outcome.Outcome.TheVariants.{Refused}
use Rattle.poke_batch.specs.Runs.{refused, types_text}
use Rattle.run_parts.proofs.Sayings.{line_ends, text_ends}
use Rattle.poke_batch.proofs.Counted.{counted}
use Rattle.poke_batch.proofs.run.check_outcome.Goals as goal

pub returns-in-Ok : goal.returns-in-Ok
returns-in-Ok g c = text_ends _ (types_text c.len.result) c.answer.result _ _ c.put_types.result
    (counted c.in-Ok.ensures.ok.1 c.in-Ok.ensures.ok.2 c.len.ensures) c.put_types.ensures.ok c.put_types.ensures.err
    c.answer.ensures.done c.answer.ensures.failed

pub returns-in-Err : goal.returns-in-Err
returns-in-Err g c = line_ends _ (Refused c.in-Err.refusal) _ (refused c.in-Err.ensures.err)
