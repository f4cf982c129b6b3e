use Rattle.std.proofs.Common.{arith, refl}
use Rattle.std.proofs.lemmas.Result.{err_from_is_err_and}
use Rattle.poke_batch.proofs.FileLines.{text_step, text_cut}
use Rattle.poke_batch.proofs.FileObjects.{name_bytes, one_byte, bytes_more}
use Rattle.poke_batch.proofs.file_object.put_name_bytes.Goals as goal

pub loop-done-preserved : goal.loop-done-preserved
loop-done-preserved g c = (
  omega arith,
  text_step name_bytes one_byte refl bytes_more _ _ _ c.args.name.now c.loop-done.done (omega arith)
      c.loop-done.invariant.1 c.in_ok-put_name_byte.ensures.ok,
)

pub returns-in_err-put_name_byte-clause-err : goal.returns-in_err-put_name_byte-clause-err
returns-in_err-put_name_byte-clause-err g c =
    let p = err_from_is_err_and c.from_residual.result c.from_residual.ensures.1 in
    rw p.1 (text_cut name_bytes one_byte refl bytes_more _ _ _ c.args.name.now c.loop-done.done (omega arith)
    c.loop-done.invariant.1 c.in_err-put_name_byte.ensures.err)
