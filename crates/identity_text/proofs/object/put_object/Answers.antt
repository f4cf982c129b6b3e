use Rattle.run_parts.proofs.Sayings.{on_err}
use Rattle.text_output.proofs.Parts.{part_first, part_next}
use Rattle.identity_text.specs.Columns.{told}
use Rattle.identity_text.specs.Objects.{object_start}
use Rattle.identity_text.proofs.object.put_object.Goals as goal

pub returns-in_err-put_start-clause-err : goal.returns-in_err-put_start-clause-err
returns-in_err-put_start-clause-err g c =
    on_err c.from_residual.result (part_first _ _ (object_start (told c.args.row.now)) _ c.in_err-put_start.ensures.err)

pub returns-in_err-put_end-clause-err : goal.returns-in_err-put_end-clause-err
returns-in_err-put_end-clause-err g c = on_err c.from_residual-in_err-put_end.result
    (part_next _ _ _ (object_start (told c.args.row.now)) _ c.in_ok-put_start.ensures.ok c.in_err-put_end.ensures.err)
