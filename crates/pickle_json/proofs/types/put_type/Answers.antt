use Rattle.pickle_types.specs.DeclaredTypes.{told_of}
use Rattle.run_parts.proofs.Sayings.{on_err}
use Rattle.pickle_json.proofs.Lists.{object_first, object_last, object_next, object_whole}
use Rattle.pickle_json.proofs.types.put_type.Goals as goal

pub returns-in_err-put_start-clause-err : goal.returns-in_err-put_start-clause-err
returns-in_err-put_start-clause-err g c =
    on_err c.from_residual.result (object_first _ _ (told_of c.args.told.now) _ c.in_err-put_start.ensures.err)

pub returns-in_err-put_declared-clause-err : goal.returns-in_err-put_declared-clause-err
returns-in_err-put_declared-clause-err g c =
    on_err c.from_residual-in_err-put_declared.result
    (object_next _ _ _ (told_of c.args.told.now) _ c.in_ok-put_start.ensures.ok c.in_err-put_declared.ensures.err)

pub returns-in_err-put-clause-err : goal.returns-in_err-put-clause-err
returns-in_err-put-clause-err g c =
    on_err c.from_residual-in_err-put.result (object_last _ _ _ _ (told_of c.args.told.now) _
    c.in_ok-put_start.ensures.ok c.in_ok-put_declared.ensures.ok c.in_err-put.ensures.err)

pub returns-clause-ok : goal.returns-clause-ok
returns-clause-ok g c = object_whole _ _ _ _ (told_of c.args.told.now) _ c.in_ok-put_start.ensures.ok
    c.in_ok-put_declared.ensures.ok c.in_ok-put.ensures.ok
