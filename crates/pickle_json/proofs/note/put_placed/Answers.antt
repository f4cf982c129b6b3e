use Rattle.std.proofs.Common.{codes}
use Rattle.run_parts.proofs.Sayings.{on_err}
use Rattle.text_output.proofs.Parts.{part_first, part_next}
use Rattle.pickle_json.proofs.Columns.{same_number, same_number_part}
use Rattle.pickle_json.proofs.note.put_placed.Goals as goal

pub returns-in_err-put_count-clause-err : goal.returns-in_err-put_count-clause-err
returns-in_err-put_count-clause-err g c =
    on_err c.from_residual.result (part_first _ _ _ _ c.in_err-put_count.ensures.err)

pub returns-in_err-put_count-2-clause-err : goal.returns-in_err-put_count-2-clause-err
returns-in_err-put_count-2-clause-err g c = on_err c.from_residual-in_err-put_count-2.result
    (part_next _ _ _ _ _ c.in_ok-put_count.ensures.ok (part_first _ _ _ _ c.in_err-put_count-2.ensures.err))

pub returns-in_err-put_number-clause-err : goal.returns-in_err-put_number-clause-err
returns-in_err-put_number-clause-err g c = on_err c.from_residual-in_err-put_number.result
    (part_next _ _ _ _ _ c.in_ok-put_count.ensures.ok (part_next _ _ _ _ _ c.in_ok-put_count-2.ensures.ok (part_first _
    _ _ _ (same_number_part _ _ (codes ",\"end\":") _ _ c.end_column.ensures c.in_err-put_number.ensures.err))))

pub returns-in_err-put_string-clause-err : goal.returns-in_err-put_string-clause-err
returns-in_err-put_string-clause-err g c = on_err c.from_residual-in_err-put_string.result
    (part_next _ _ _ _ _ c.in_ok-put_count.ensures.ok (part_next _ _ _ _ _ c.in_ok-put_count-2.ensures.ok
    (part_next _ _ _ _ _ (same_number _ _ (codes ",\"end\":") _ _ c.end_column.ensures c.in_ok-put_number.ensures.ok)
    (part_first _ _ _ _ c.in_err-put_string.ensures.err))))

pub returns-in_err-put_text-clause-err : goal.returns-in_err-put_text-clause-err
returns-in_err-put_text-clause-err g c = on_err c.from_residual-in_err-put_text.result
    (part_next _ _ _ _ _ c.in_ok-put_count.ensures.ok (part_next _ _ _ _ _ c.in_ok-put_count-2.ensures.ok
    (part_next _ _ _ _ _ (same_number _ _ (codes ",\"end\":") _ _ c.end_column.ensures c.in_ok-put_number.ensures.ok)
    (part_next _ _ _ _ _ c.in_ok-put_string.ensures.ok c.in_err-put_text.ensures.err))))
