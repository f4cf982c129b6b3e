use Rattle.std.proofs.Common.{subst}
use Rattle.std.proofs.lemmas.Result.{err_from_is_err_and}
use Rattle.command_line.specs.OffsetWord.{IsNoOffset}
use Rattle.command_line.proofs.words.step_of.Goals as goal

pub returns-in_err-step-clause-offset : goal.returns-in_err-step-clause-offset
returns-in_err-step-clause-offset c =
    let p = err_from_is_err_and c.from_residual.result c.from_residual.ensures.1 in
    rw (p.1, p.2) (λ is. subst IsNoOffset c.word.ensures c.in_err-step.ensures.refused)

pub returns-in_err-step-clause-misread : goal.returns-in_err-step-clause-misread
returns-in_err-step-clause-misread c =
    let p = err_from_is_err_and c.from_residual.result c.from_residual.ensures.1 in
    rw (p.1, p.2, c.in_err-step.ensures.err) (subst IsNoOffset c.word.ensures c.in_err-step.ensures.refused)
