use Rattle.std.proofs.Common.{codes}
use Rattle.run_parts.proofs.Sayings.{on_err}
use Rattle.text_output.proofs.Parts.{part_first, part_next}
use Rattle.poke_batch.proofs.file_object.put_value.Goals as goal

pub returns-in_err-put-clause-err : goal.returns-in_err-put-clause-err
returns-in_err-put-clause-err g c =
    on_err c.from_residual.result (part_first _ _ (codes "\"value\":") _ c.in_err-put.ensures.err)

pub returns-in_err-put_without_end-clause-err : goal.returns-in_err-put_without_end-clause-err
returns-in_err-put_without_end-clause-err g c = on_err c.from_residual-in_err-put_without_end.result
    (part_next _ _ _ (codes "\"value\":") _ c.in_ok-put.ensures.ok c.in_err-put_without_end.ensures.err)
