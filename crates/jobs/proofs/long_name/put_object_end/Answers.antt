use Rattle.std.proofs.Common.{codes}
use Rattle.run_parts.proofs.Sayings.{on_err}
use Rattle.text_output.proofs.Parts.{part_first, part_next}
use Rattle.jobs.proofs.long_name.put_object_end.Goals as goal

pub returns-in_err-put-clause-err : goal.returns-in_err-put-clause-err
returns-in_err-put-clause-err g c =
    on_err c.from_residual.result (part_first _ _ (codes "\"") _ c.in_err-put.ensures.err)

pub returns-in_err-put_later_members-clause-err : goal.returns-in_err-put_later_members-clause-err
returns-in_err-put_later_members-clause-err g c = on_err c.from_residual-in_err-put_later_members.result
    (part_next _ _ _ (codes "\"") _ c.in_ok-put.ensures.ok c.in_err-put_later_members.ensures.err)
