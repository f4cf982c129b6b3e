use Rattle.std.proofs.Common.{arith}
use Rattle.std.proofs.lemmas.List.{take_rest}
use Rattle.std.proofs.lemmas.Result.{err_from_is_err_and}
use Rattle.poke_batch.proofs.FileObjects.{no_lines, more_lines, all_lines, part_lines}
use Rattle.poke_batch.proofs.file_object.put_lines.Goals as goal

pub loop-done-init : goal.loop-done-init
loop-done-init g c = no_lines _ c.args.text.now

pub loop-done-preserved : goal.loop-done-preserved
loop-done-preserved g c =
    more_lines _ _ _ c.loop-done.done c.args.text.now _ _ c.loop-done.invariant (omega arith)
    (take_rest c.args.text.now c.loop-done.done) c.in_ok-length.ensures.length c.in_ok-length.ensures.ok

pub returns-in_err-length-clause-err : goal.returns-in_err-length-clause-err
returns-in_err-length-clause-err g c =
    let p = err_from_is_err_and c.from_residual.result c.from_residual.ensures.1 in
    rw p.1 (part_lines _ _ _ c.loop-done.done c.args.text.now _ c.loop-done.invariant (omega arith)
    (take_rest c.args.text.now c.loop-done.done) c.in_err-length.ensures.err)

pub returns-clause-ok : goal.returns-clause-ok
returns-clause-ok g c = all_lines _ _ c.loop-done.done c.args.text.now c.loop-done.invariant (omega arith)
