use Rattle.std.proofs.lemmas.Result.{err_from_is_err_and}
use Rattle.identification.specs.Prepared.{is_misplaced, has_no_line}
use Rattle.identification.proofs.prepare.formats_of.Goals as goal

pub returns-in-Some-clause-err : goal.returns-in-Some-clause-err
returns-in-Some-clause-err c = is_misplaced c.in-Some.ensures.some

pub returns-in_err-lines-clause-err : goal.returns-in_err-lines-clause-err
returns-in_err-lines-clause-err c =
    let p = err_from_is_err_and c.from_residual-in_err-lines.result c.from_residual-in_err-lines.ensures.1 in
    rw (p.1, p.2) (has_no_line c.in_ok-list.list.items c.in_ok-list.ensures.ok
    (rw c.deref.ensures.value at c.in_err-lines.ensures.err))
