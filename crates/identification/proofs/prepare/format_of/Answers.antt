use Rattle.std.proofs.Common.{sym, subst}
use Rattle.std.proofs.lemmas.Result.{err_from_is_err_and}
use Rattle.identification.specs.Prepared.{TellsUnfit}
use Rattle.identification.proofs.Lines.{misses_unfit}
use Rattle.identification.proofs.prepare.format_of.Goals as goal

pub returns-in_err-identifying-clause-err : goal.returns-in_err-identifying-clause-err
returns-in_err-identifying-clause-err c =
    let p = err_from_is_err_and c.from_residual.result c.from_residual.ensures.1 in
    let e = c.in_err-identifying.ensures.err in
    rw (p.1, p.2) (subst (TellsUnfit c.args.source.pickle.now) (sym e.0)
    (c.in-Ok.table, c.in-Ok.ensures.ok, rw c.head_of-head.ensures.identified at e.1))

pub returns-in_err-documented-clause-err : goal.returns-in_err-documented-clause-err
returns-in_err-documented-clause-err c =
    let p = err_from_is_err_and c.from_residual-in_err-documented.result c.from_residual-in_err-documented.ensures.1 in
    rw (p.1, p.2) (misses_unfit c.args.source.pickle.now c.in-Ok.table c.in-Ok.ensures.ok _
    (rw (c.head_of-head.ensures.main, c.head_of-head.ensures.identified) at c.in_err-documented.ensures.err))
