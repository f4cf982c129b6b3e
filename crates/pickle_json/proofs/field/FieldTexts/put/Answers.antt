use Rattle.std.proofs.KnownBytes.{Appends-trans}
use Rattle.run_parts.proofs.Sayings.{on_err}
use Rattle.text_output.proofs.Parts.{part_first, part_next}
use Rattle.pickle_json.proofs.field.FieldTexts.put.Goals as goal

pub returns-in_err-put_name-clause-err : goal.returns-in_err-put_name-clause-err
returns-in_err-put_name-clause-err g c =
    on_err c.from_residual.result (part_first _ _ _ _ c.in_err-put_name.ensures.err)

pub returns-in_err-put_string-clause-err : goal.returns-in_err-put_string-clause-err
returns-in_err-put_string-clause-err g c = on_err c.from_residual-in_err-put_string.result
    (part_next _ _ _ _ _ c.in_ok-put_name.ensures.ok (part_first _ _ _ _ c.in_err-put_string.ensures.err))

pub returns-in_err-put_text-clause-err : goal.returns-in_err-put_text-clause-err
returns-in_err-put_text-clause-err g c =
    on_err c.from_residual-in_err-put_text.result (part_next _ _ _ _ _ c.in_ok-put_name.ensures.ok
    (part_next _ _ _ _ _ c.in_ok-put_string.ensures.ok (part_first _ _ _ _ c.in_err-put_text.ensures.err)))

pub returns-in_err-put_number-clause-err : goal.returns-in_err-put_number-clause-err
returns-in_err-put_number-clause-err g c = on_err c.from_residual-in_err-put_number.result
    (part_next _ _ _ _ _ c.in_ok-put_name.ensures.ok (part_next _ _ _ _ _ c.in_ok-put_string.ensures.ok
    (part_next _ _ _ _ _ c.in_ok-put_text.ensures.ok (part_first _ _ _ _ c.in_err-put_number.ensures.err))))

pub returns-in_err-put_text-2-clause-err : goal.returns-in_err-put_text-2-clause-err
returns-in_err-put_text-2-clause-err g c =
    on_err c.from_residual-in_err-put_text-2.result (part_next _ _ _ _ _ c.in_ok-put_name.ensures.ok
    (part_next _ _ _ _ _ c.in_ok-put_string.ensures.ok (part_next _ _ _ _ _ c.in_ok-put_text.ensures.ok
    (part_next _ _ _ _ _ c.in_ok-put_number.ensures.ok (part_first _ _ _ _ c.in_err-put_text-2.ensures.err)))))

pub returns-in_err-put_text-3-clause-err : goal.returns-in_err-put_text-3-clause-err
returns-in_err-put_text-3-clause-err g c = on_err c.from_residual-in_err-put_text-3.result
    (part_next _ _ _ _ _ c.in_ok-put_name.ensures.ok (part_next _ _ _ _ _ c.in_ok-put_string.ensures.ok
    (part_next _ _ _ _ _ c.in_ok-put_text.ensures.ok (part_next _ _ _ _ _ c.in_ok-put_number.ensures.ok
    (part_next _ _ _ _ _ c.in_ok-put_text-2.ensures.ok (part_first _ _ _ _ c.in_err-put_text-3.ensures.err))))))

pub returns-in_err-put_text-4-clause-err : goal.returns-in_err-put_text-4-clause-err
returns-in_err-put_text-4-clause-err g c =
    on_err c.from_residual-in_err-put_text-4.result (part_next _ _ _ _ _ c.in_ok-put_name.ensures.ok
    (part_next _ _ _ _ _ c.in_ok-put_string.ensures.ok (part_next _ _ _ _ _ c.in_ok-put_text.ensures.ok
    (part_next _ _ _ _ _ c.in_ok-put_number.ensures.ok (part_next _ _ _ _ _ c.in_ok-put_text-2.ensures.ok
    (part_next _ _ _ _ _ c.in_ok-put_text-3.ensures.ok (part_first _ _ _ _ c.in_err-put_text-4.ensures.err)))))))

pub returns-in_err-put_text-5-clause-err : goal.returns-in_err-put_text-5-clause-err
returns-in_err-put_text-5-clause-err g c = on_err c.from_residual-in_err-put_text-5.result
    (part_next _ _ _ _ _ c.in_ok-put_name.ensures.ok (part_next _ _ _ _ _ c.in_ok-put_string.ensures.ok
    (part_next _ _ _ _ _ c.in_ok-put_text.ensures.ok (part_next _ _ _ _ _ c.in_ok-put_number.ensures.ok
    (part_next _ _ _ _ _ c.in_ok-put_text-2.ensures.ok (part_next _ _ _ _ _ c.in_ok-put_text-3.ensures.ok
    (part_next _ _ _ _ _ c.in_ok-put_text-4.ensures.ok (part_first _ _ _ _ c.in_err-put_text-5.ensures.err))))))))

pub returns-in_err-put-clause-err : goal.returns-in_err-put-clause-err
returns-in_err-put-clause-err g c = on_err c.from_residual-in_err-put.result
    (part_next _ _ _ _ _ c.in_ok-put_name.ensures.ok (part_next _ _ _ _ _ c.in_ok-put_string.ensures.ok
    (part_next _ _ _ _ _ c.in_ok-put_text.ensures.ok (part_next _ _ _ _ _ c.in_ok-put_number.ensures.ok (part_next _ _ _
    _ _ c.in_ok-put_text-2.ensures.ok (part_next _ _ _ _ _ c.in_ok-put_text-3.ensures.ok (part_next _ _ _ _ _
    c.in_ok-put_text-4.ensures.ok (part_next _ _ _ _ _ c.in_ok-put_text-5.ensures.ok c.in_err-put.ensures.err))))))))

pub returns-clause-ok : goal.returns-clause-ok
returns-clause-ok g c = Appends-trans _ _ _ _ _ c.in_ok-put_name.ensures.ok
    (Appends-trans _ _ _ _ _ c.in_ok-put_string.ensures.ok (Appends-trans _ _ _ _ _ c.in_ok-put_text.ensures.ok
    (Appends-trans _ _ _ _ _ c.in_ok-put_number.ensures.ok (Appends-trans _ _ _ _ _ c.in_ok-put_text-2.ensures.ok
    (Appends-trans _ _ _ _ _ c.in_ok-put_text-3.ensures.ok (Appends-trans _ _ _ _ _ c.in_ok-put_text-4.ensures.ok
    (Appends-trans _ _ _ _ _ c.in_ok-put_text-5.ensures.ok c.in_ok-put.ensures.ok)))))))
