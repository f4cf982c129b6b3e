use Rattle.std.proofs.Common.{subst}
use Rattle.std.proofs.lemmas.Result.{IfErr-weaker}
use Rattle.jobs.specs.Opened.{not_text, not_opened}
use Rattle.jobs.proofs.file_run.open_named.Goals as goal

pub returns-in-Ok-clause-err : goal.returns-in-Ok-clause-err
returns-in-Ok-clause-err g c = IfErr-weaker c.open.result _ _
    (λ fault h. not_opened (subst
    (λ path. (g.P.Opener.gives c.args.opener.now).is_unopened path c.args.spool fault)
    c.in-Ok.ensures.cases.0 h)) c.open.ensures.err

pub returns-in-Err-clause-err : goal.returns-in-Err-clause-err
returns-in-Err-clause-err g c = rw c.into.ensures (not_text c.in-Err.ensures.cases.0)
