use Rattle.run_parts.proofs.Sayings.{on_err}
use Rattle.text_output.proofs.Parts.{part_first, part_next}
use Rattle.poke_batch.proofs.file_object.put_later_members.Goals as goal

pub returns-in_err-put_status-clause-err : goal.returns-in_err-put_status-clause-err
returns-in_err-put_status-clause-err g c =
    on_err c.from_residual.result (part_first _ _ _ _ c.in_err-put_status.ensures.err)

pub returns-in_err-put_result-clause-err : goal.returns-in_err-put_result-clause-err
returns-in_err-put_result-clause-err g c = on_err c.from_residual-in_err-put_result.result
    (part_next _ _ _ _ _ c.in_ok-put_status.ensures.ok (part_first _ _ _ _ c.in_err-put_result.ensures.err))

pub returns-in_err-put_why-clause-err : goal.returns-in_err-put_why-clause-err
returns-in_err-put_why-clause-err g c =
    on_err c.from_residual-in_err-put_why.result (part_next _ _ _ _ _ c.in_ok-put_status.ensures.ok
    (part_next _ _ _ _ _ c.in_ok-put_result.ensures.ok (part_first _ _ _ _ c.in_err-put_why.ensures.err)))

pub returns-in_err-put-clause-err : goal.returns-in_err-put-clause-err
returns-in_err-put-clause-err g c = on_err c.from_residual-in_err-put.result
    (part_next _ _ _ _ _ c.in_ok-put_status.ensures.ok (part_next _ _ _ _ _ c.in_ok-put_result.ensures.ok
    (part_next _ _ _ _ _ c.in_ok-put_why.ensures.ok c.in_err-put.ensures.err)))
