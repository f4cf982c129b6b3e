use Rattle.std.proofs.Common.{arith}
use Rattle.std.proofs.lemmas.Result.{err_from_is_err_and}
use Rattle.poke_batch.proofs.FileLines.{name_step, name_cut}
use Rattle.poke_batch.proofs.file_line.put_name.Goals as goal

pub loop-done-preserved : goal.loop-done-preserved
loop-done-preserved g c = (
  omega arith,
  name_step _ _ _ c.args.name.now c.loop-done.done (omega arith) c.loop-done.invariant.1 c.in_ok-put_byte.ensures.ok,
)

pub returns-in_err-put_byte-clause-err : goal.returns-in_err-put_byte-clause-err
returns-in_err-put_byte-clause-err g c =
    let p = err_from_is_err_and c.from_residual.result c.from_residual.ensures.1 in
    rw p.1 (name_cut _ _ _ c.args.name.now c.loop-done.done (omega arith) c.loop-done.invariant.1
    c.in_err-put_byte.ensures.err)
