use Rattle.std.proofs.Common.{Ok}
use Rattle.std.proofs.KnownBytes.{Keeps-refl}
use Rattle.std.proofs.lemmas.Result.{err_from_is_err_and}
use Rattle.jobs.specs.Installed.{among, not_installed}
use Rattle.jobs.specs.Jobs.{DueNamed, every_format}
use Rattle.jobs.proofs.Holding.{holds_more, no_text}
use Rattle.jobs.proofs.Among.{formatless_holds}
use Rattle.jobs.specs.Asides.{no_formats, tells_formats}
use Rattle.jobs.proofs.identify.identify_each.Goals as goal

pub returns-in_err-installed-clause-holds : goal.returns-in_err-installed-clause-holds
returns-in_err-installed-clause-holds g c =
    let p = err_from_is_err_and c.from_residual.result c.from_residual.ensures.1 in
    rw (p.1, p.2)
    (no_text _ _ _ _ (not_installed (rw c.as_deref.ensures.value at c.in_err-installed.ensures.err)) (Keeps-refl _))

pub returns-in-Ok-clause-holds : goal.returns-in-Ok-clause-holds
returns-in-Ok-clause-holds g c =
    let gives = g.P.Opener.gives c.args.opener.now in
    holds_more
    (DueNamed gives (every_format c.args.why.now.asked c.args.asked.now c.args.form c.in-Ok.formats)
    c.args.asked.now.names)
    _ (Ok c.identify_among-ending.result) _ _
    (λ lines end due. among (rw c.as_deref.ensures.value at c.in_ok-installed.ensures.ok)
    (rw c.deref.ensures.value at c.in-Ok.ensures.ok) due)
    c.identify_among-ending.ensures.holds

pub returns-clause-holds : goal.returns-clause-holds
returns-clause-holds g c =
    formatless_holds (g.P.Opener.gives c.args.opener.now) _ _ _
    (rw c.as_deref.ensures.value at c.in_ok-installed.ensures.ok)
    c.in-Err.formatless c.end_formatless.result _ _ (rw c.deref.ensures.value at c.in-Err.ensures.err)
    c.end_formatless.ensures (Keeps-refl _)

pub returns-in_err-installed-clause-told : goal.returns-in_err-installed-clause-told
returns-in_err-installed-clause-told g c = no_formats (Keeps-refl _)

pub returns-clause-told : goal.returns-clause-told
returns-clause-told g c = no_formats (Keeps-refl _)

pub returns-in-Ok-clause-told : goal.returns-in-Ok-clause-told
returns-in-Ok-clause-told g c =
    tells_formats (rw c.as_deref.ensures.value at c.in_ok-installed.ensures.ok)
    (rw c.deref.ensures.value at c.in-Ok.ensures.ok) c.identify_among-ending.ensures.told
