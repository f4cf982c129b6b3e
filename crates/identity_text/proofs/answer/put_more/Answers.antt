use Rattle.std.proofs.Common.{arith}
use Rattle.std.proofs.lemmas.Result.{err_from_is_err_and}
use Rattle.run_parts.proofs.TypeLines.{texts_step, texts_cut}
use Rattle.identity_text.proofs.Writing.{next_of, all_written, part_written}
use Rattle.identity_text.proofs.answer.put_more.Goals as goal

pub loop-done-preserved : goal.loop-done-preserved
loop-done-preserved g c = (
  omega arith,
  texts_step (next_of c.args.form c.args.formats.now) c.args.fits.now c.loop-done.done _ (omega arith) _ _ _
      c.loop-done.invariant.1 c.in_ok-put_next.ensures.ok,
)

pub returns-in_err-put_next-clause-err : goal.returns-in_err-put_next-clause-err
returns-in_err-put_next-clause-err g c =
    let p = err_from_is_err_and c.from_residual.result c.from_residual.ensures.1 in
    rw p.1 (part_written c.args.form c.args.formats.now c.args.fits.now _ _
    (texts_cut (next_of c.args.form c.args.formats.now) c.args.fits.now c.loop-done.done _ (omega arith) _ _ _
    c.loop-done.invariant.1 c.in_err-put_next.ensures.err))

pub returns-clause-ok : goal.returns-clause-ok
returns-clause-ok g c =
    all_written c.args.form c.args.formats.now c.args.fits.now _ _ c.loop-done.done c.loop-done-test.false
    c.loop-done.invariant.1
