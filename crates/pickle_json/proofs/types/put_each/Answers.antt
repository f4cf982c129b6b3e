use Rattle.std.proofs.Common.{arith}
use Rattle.std.proofs.lemmas.Result.{err_from_is_err_and}
use Rattle.pickle_json.proofs.Lists.{no_fields, field_more, field_cut}
use Rattle.pickle_json.proofs.types.put_each.Goals as goal

pub loop-first-init : goal.loop-first-init
loop-first-init g c = (omega arith, no_fields _)

pub loop-first-preserved : goal.loop-first-preserved
loop-first-preserved g c =
    (omega arith, field_more _ _ _ c.loop-first.place c.of.result c.loop-first.invariant.1 c.in_ok-put_field.ensures.ok)

pub returns-in_err-put_field-clause-err : goal.returns-in_err-put_field-clause-err
returns-in_err-put_field-clause-err g c =
    let p = err_from_is_err_and c.from_residual.result c.from_residual.ensures.1 in
    rw p.1 (field_cut _ _ _ c.loop-first.place c.of.result c.loop-first.invariant.1 c.in_err-put_field.ensures.err)

pub returns-clause-ok : goal.returns-clause-ok
returns-clause-ok g c = (c.loop-first.place, c.loop-first.invariant.1)
