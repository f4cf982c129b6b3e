use Rattle.std.proofs.Common.{codes}
use Rattle.run_parts.proofs.Sayings.{on_err}
use Rattle.text_output.proofs.Parts.{part_first, part_next}
use Rattle.identity_text.proofs.columns.put_columns.Goals as goal

pub returns-in_err-put-clause-err : goal.returns-in_err-put-clause-err
returns-in_err-put-clause-err g c =
    on_err c.from_residual-in_err-put.result (part_next _ _ _ _ _ c.in_ok-put_name.ensures.ok
    (part_first _ _ (codes "\t") _ c.in_err-put.ensures.err))

pub returns-in_err-put_name-2-clause-err : goal.returns-in_err-put_name-2-clause-err
returns-in_err-put_name-2-clause-err g c =
    on_err c.from_residual-in_err-put_name-2.result (part_next _ _ _ _ _ c.in_ok-put_name.ensures.ok
    (part_next _ _ _ (codes "\t") _ c.in_ok-put.ensures.ok
    (part_first _ _ _ _ c.in_err-put_name-2.ensures.err)))

pub returns-in_err-put_order-clause-err : goal.returns-in_err-put_order-clause-err
returns-in_err-put_order-clause-err g c =
    on_err c.from_residual-in_err-put_order.result (part_next _ _ _ _ _ c.in_ok-put_name.ensures.ok
    (part_next _ _ _ (codes "\t") _ c.in_ok-put.ensures.ok
    (part_next _ _ _ _ _ c.in_ok-put_name-2.ensures.ok
    c.in_err-put_order.ensures.err)))
