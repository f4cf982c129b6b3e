use Rattle.std.proofs.Common.{codes}
use Rattle.run_parts.proofs.Sayings.{on_err}
use Rattle.value_text.specs.JsonText.{json_string}
use Rattle.text_output.proofs.Parts.{part_first, part_next}
use Rattle.poke_batch.proofs.file_object.put_name_string.Goals as goal

pub returns-in_err-put-clause-err : goal.returns-in_err-put-clause-err
unfolding json_string
returns-in_err-put-clause-err g c =
    on_err c.from_residual.result (part_first _ _ (codes "\"") _ c.in_err-put.ensures.err)

pub returns-in_err-put_name_bytes-clause-err : goal.returns-in_err-put_name_bytes-clause-err
unfolding json_string
returns-in_err-put_name_bytes-clause-err g c = on_err c.from_residual-in_err-put_name_bytes.result
    (part_next _ _ _ (codes "\"") _ c.in_ok-put.ensures.ok (part_first _ _ _ _ c.in_err-put_name_bytes.ensures.err))

pub returns-in_err-put-2-clause-err : goal.returns-in_err-put-2-clause-err
unfolding json_string
returns-in_err-put-2-clause-err g c = on_err c.from_residual-in_err-put-2.result (part_next _ _ _ (codes "\"") _
    c.in_ok-put.ensures.ok (part_next _ _ _ _ _ c.in_ok-put_name_bytes.ensures.ok c.in_err-put-2.ensures.err))
