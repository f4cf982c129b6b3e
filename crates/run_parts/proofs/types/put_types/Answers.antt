use Rattle.std.proofs.Common.{arith}
use Rattle.std.proofs.lemmas.Result.{err_from_is_err_and}
use Rattle.pickle_types.specs.DeclaredTypes.{told_of}
use Rattle.run_parts.specs.TypesText.{type_line}
use Rattle.run_parts.proofs.TypeLines.{texts_step, texts_cut}
use Rattle.run_parts.proofs.types.put_types.Goals as goal

pub loop-done-preserved : goal.loop-done-preserved
loop-done-preserved g c = (
  omega arith,
  texts_step (λ told. type_line (told_of told)) c.args.types.now c.loop-done.done _ (omega arith) _ _ _
      c.loop-done.invariant.1 c.in_ok-put_type.ensures.ok,
)

pub returns-in_err-put_type-clause-err : goal.returns-in_err-put_type-clause-err
returns-in_err-put_type-clause-err g c =
    let p = err_from_is_err_and c.from_residual.result c.from_residual.ensures.1 in
    rw p.1 (texts_cut (λ told. type_line (told_of told)) c.args.types.now c.loop-done.done _ (omega arith) _ _ _
    c.loop-done.invariant.1 c.in_err-put_type.ensures.err)
