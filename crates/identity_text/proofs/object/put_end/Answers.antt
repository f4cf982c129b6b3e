use Rattle.std.proofs.Common.{codes}
use Rattle.run_parts.proofs.Sayings.{on_err}
use Rattle.text_output.proofs.Parts.{part_first, part_next}
use Rattle.identity_text.proofs.object.put_end.Goals as goal

pub returns-in_err-put-clause-err : goal.returns-in_err-put-clause-err
returns-in_err-put-clause-err g c =
    on_err c.from_residual.result (part_first _ _ (codes ",\"size\":") _ c.in_err-put.ensures.err)

pub returns-in_err-put_size-clause-err : goal.returns-in_err-put_size-clause-err
returns-in_err-put_size-clause-err g c =
    on_err c.from_residual-in_err-put_size.result (part_next _ _ _ (codes ",\"size\":") _ c.in_ok-put.ensures.ok
    (part_first _ _ _ _ c.in_err-put_size.ensures.err))

pub returns-in_err-put-2-clause-err : goal.returns-in_err-put-2-clause-err
returns-in_err-put-2-clause-err g c =
    on_err c.from_residual-in_err-put-2.result (part_next _ _ _ (codes ",\"size\":") _ c.in_ok-put.ensures.ok
    (part_next _ _ _ _ _ c.in_ok-put_size.ensures.ok
    (part_first _ _ (codes ",\"description\":") _ c.in_err-put-2.ensures.err)))

pub returns-in_err-print_json_string-clause-err : goal.returns-in_err-print_json_string-clause-err
returns-in_err-print_json_string-clause-err g c =
    on_err c.from_residual-in_err-print_json_string.result
    (part_next _ _ _ (codes ",\"size\":") _ c.in_ok-put.ensures.ok
    (part_next _ _ _ _ _ c.in_ok-put_size.ensures.ok
    (part_next _ _ _ (codes ",\"description\":") _ c.in_ok-put-2.ensures.ok
    (part_first _ _ _ _ c.in_err-print_json_string.ensures.err))))

pub returns-in_err-put-3-clause-err : goal.returns-in_err-put-3-clause-err
returns-in_err-put-3-clause-err g c =
    on_err c.from_residual-in_err-put-3.result (part_next _ _ _ (codes ",\"size\":") _ c.in_ok-put.ensures.ok
    (part_next _ _ _ _ _ c.in_ok-put_size.ensures.ok
    (part_next _ _ _ (codes ",\"description\":") _ c.in_ok-put-2.ensures.ok
    (part_next _ _ _ _ _ c.in_ok-print_json_string.ensures.ok
    c.in_err-put-3.ensures.err))))
