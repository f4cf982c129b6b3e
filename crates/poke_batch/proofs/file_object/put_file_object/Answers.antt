use Rattle.std.proofs.Common.{codes}
use Rattle.run_parts.proofs.Sayings.{on_err}
use Rattle.text_output.proofs.Parts.{part_first, part_next}
use Rattle.poke_batch.proofs.file_object.put_file_object.Goals as goal

pub returns-in_err-put-clause-err : goal.returns-in_err-put-clause-err
returns-in_err-put-clause-err g c =
    on_err c.from_residual.result (part_first _ _ (codes "{\"name\":") _ c.in_err-put.ensures.err)

pub returns-in_err-put_name_string-clause-err : goal.returns-in_err-put_name_string-clause-err
returns-in_err-put_name_string-clause-err g c = on_err c.from_residual-in_err-put_name_string.result (part_next _ _ _
    (codes "{\"name\":") _ c.in_ok-put.ensures.ok (part_first _ _ _ _ c.in_err-put_name_string.ensures.err))

pub returns-in_err-put_later_members-clause-err : goal.returns-in_err-put_later_members-clause-err
returns-in_err-put_later_members-clause-err g c =
    on_err c.from_residual-in_err-put_later_members.result (part_next _ _ _ (codes "{\"name\":") _
    c.in_ok-put.ensures.ok (part_next _ _ _ _ _ c.in_ok-put_name_string.ensures.ok
    c.in_err-put_later_members.ensures.err))
