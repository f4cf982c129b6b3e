use Rattle.run_parts.proofs.Sayings.{line_ends, text_ends}
use Rattle.part_lists.specs.ListText.{list_text}
use Rattle.part_lists.specs.PartRuns.{listed_parts, no_parts}
use Rattle.part_lists.proofs.run.parts_outcome.Goals as goal

pub returns-in-Ok : goal.returns-in-Ok
returns-in-Ok g c =
    text_ends _ (list_text c.args.form c.in-Ok.table c.in-Ok.id c.args.most) c.answer.result _ _ c.print_parts.result
    (listed_parts c.in-Ok.table c.in-Ok.id c.in-Ok.ensures.known c.in-Ok.ensures.asked)
    c.print_parts.ensures.ok c.print_parts.ensures.err c.answer.ensures.done c.answer.ensures.failed

pub returns-in-Err : goal.returns-in-Err
returns-in-Err g c = line_ends _ c.in-Err.outcome _ (no_parts c.in-Err.ensures.none)
