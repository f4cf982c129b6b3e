use Rattle.run_parts.proofs.Sayings.{on_err}
use Rattle.text_output.proofs.Parts.{part_first, part_next}
use Rattle.pickle_json.proofs.types.put_start.Goals as goal

pub returns-in_err-put_string-clause-err : goal.returns-in_err-put_string-clause-err
returns-in_err-put_string-clause-err g c =
    on_err c.from_residual.result (part_first _ _ _ _ c.in_err-put_string.ensures.err)

pub returns-in_err-put_kind-clause-err : goal.returns-in_err-put_kind-clause-err
returns-in_err-put_kind-clause-err g c = on_err c.from_residual-in_err-put_kind.result
    (part_next _ _ _ _ _ c.in_ok-put_string.ensures.ok (part_first _ _ _ _ c.in_err-put_kind.ensures.err))

pub returns-in_err-put_number-clause-err : goal.returns-in_err-put_number-clause-err
returns-in_err-put_number-clause-err g c =
    on_err c.from_residual-in_err-put_number.result (part_next _ _ _ _ _ c.in_ok-put_string.ensures.ok
    (part_next _ _ _ _ _ c.in_ok-put_kind.ensures.ok (part_first _ _ _ _ c.in_err-put_number.ensures.err)))

pub returns-in_err-put_string-2-clause-err : goal.returns-in_err-put_string-2-clause-err
returns-in_err-put_string-2-clause-err g c = on_err c.from_residual-in_err-put_string-2.result
    (part_next _ _ _ _ _ c.in_ok-put_string.ensures.ok (part_next _ _ _ _ _ c.in_ok-put_kind.ensures.ok
    (part_next _ _ _ _ _ c.in_ok-put_number.ensures.ok c.in_err-put_string-2.ensures.err)))
