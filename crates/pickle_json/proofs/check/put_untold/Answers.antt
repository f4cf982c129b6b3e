use Rattle.std.proofs.Common.{codes}
use Rattle.std.proofs.KnownBytes.{Appends-trans}
use Rattle.run_parts.proofs.Sayings.{on_err}
use Rattle.text_output.proofs.Parts.{part_first, part_next}
use Rattle.pickle_json.proofs.check.put_untold.Goals as goal

pub returns-in_err-put-clause-err : goal.returns-in_err-put-clause-err
returns-in_err-put-clause-err g c =
    on_err c.from_residual.result (part_first _ _ (codes "{") _ c.in_err-put.ensures.err)

pub returns-in_err-put_members-clause-err : goal.returns-in_err-put_members-clause-err
returns-in_err-put_members-clause-err g c = on_err c.from_residual-in_err-put_members.result
    (part_next _ _ _ (codes "{") _ c.in_ok-put.ensures.ok (part_first _ _ _ _ c.in_err-put_members.ensures.err))

pub returns-in_err-put-2-clause-err : goal.returns-in_err-put-2-clause-err
returns-in_err-put-2-clause-err g c =
    on_err c.from_residual-in_err-put-2.result (part_next _ _ _ (codes "{") _ c.in_ok-put.ensures.ok
    (part_next _ _ _ _ _ c.in_ok-put_members.ensures.ok c.in_err-put-2.ensures.err))

pub returns-clause-ok : goal.returns-clause-ok
returns-clause-ok g c =
    Appends-trans _ _ _ (codes "{") _ c.in_ok-put.ensures.ok
    (Appends-trans _ _ _ _ (codes ",\"says\":null}\n") c.in_ok-put_members.ensures.ok c.in_ok-put-2.ensures.ok)
