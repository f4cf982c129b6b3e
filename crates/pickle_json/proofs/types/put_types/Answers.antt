use Rattle.std.proofs.Common.{arith}
use Rattle.std.proofs.lemmas.Result.{err_from_is_err_and}
use Rattle.pickle_json.proofs.Lists.{no_objects, objects_step, objects_cut, objects_all}
use Rattle.pickle_json.proofs.types.put_types.Goals as goal

pub loop-done-init : goal.loop-done-init
loop-done-init g c = no_objects _

pub loop-done-preserved : goal.loop-done-preserved
loop-done-preserved g c = objects_step c.args.types.now c.loop-done.done _ (omega arith) _ _ _ c.loop-done.invariant
    c.in_ok-put_type.ensures.ok

pub returns-in_err-put_type-clause-err : goal.returns-in_err-put_type-clause-err
returns-in_err-put_type-clause-err g c =
    let p = err_from_is_err_and c.from_residual.result c.from_residual.ensures.1 in
    rw p.1 (objects_cut c.args.types.now c.loop-done.done _ (omega arith) _ _ _ c.loop-done.invariant
    c.in_err-put_type.ensures.err)

pub returns-clause-ok : goal.returns-clause-ok
returns-clause-ok g c = objects_all _ _ c.args.types.now c.loop-done.done (omega arith) c.loop-done.invariant
