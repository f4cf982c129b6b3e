use Rattle.run_parts.proofs.Sayings.{on_err}
use Rattle.pickle_json.proofs.Lists.{member_first, member_last, member_next, member_whole}
use Rattle.pickle_json.proofs.types.put_fields.Goals as goal

pub returns-in_err-put-clause-err : goal.returns-in_err-put-clause-err
returns-in_err-put-clause-err g c = on_err c.from_residual.result (member_first _ _ c.in_err-put.ensures.err)

pub returns-in_err-put_each-clause-err : goal.returns-in_err-put_each-clause-err
returns-in_err-put_each-clause-err g c = on_err c.from_residual-in_err-put_each.result
    (member_next _ _ _ c.in_ok-put.ensures.ok c.in_err-put_each.ensures.err)

pub returns-in_err-put-2-clause-err : goal.returns-in_err-put-2-clause-err
returns-in_err-put-2-clause-err g c =
    on_err c.from_residual-in_err-put-2.result (member_last _ _ _ _ c.in_ok-put_each.ensures.ok.0 c.in_ok-put.ensures.ok
    c.in_ok-put_each.ensures.ok.1 c.in_err-put-2.ensures.err)

pub returns-clause-ok : goal.returns-clause-ok
returns-clause-ok g c = member_whole _ _ _ _ c.in_ok-put_each.ensures.ok.0 c.in_ok-put.ensures.ok
    c.in_ok-put_each.ensures.ok.1 c.in_ok-put-2.ensures.ok
