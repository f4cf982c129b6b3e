use Rattle.std.proofs.Common.{None, map}
use Rattle.std.proofs.KnownBytes.{Keeps-refl}
use Rattle.std.proofs.lemmas.Result.{err_from_is_err_and}
use Rattle.jobs.specs.Identified.{DueSeenFile}
use Rattle.jobs.specs.Installed.{among, installed_pickle, not_installed}
use Rattle.jobs.proofs.Holding.{holds_more, no_text}
use Rattle.jobs.proofs.Among.{formatless_holds}
use Rattle.jobs.proofs.identified.show_identified.Goals as goal

pub returns-in_err-installed : goal.returns-in_err-installed
returns-in_err-installed g c =
    let p = err_from_is_err_and c.from_residual.result c.from_residual.ensures.1 in
    rw (p.1, p.2) (no_text _ _ _ _ (not_installed c.in_err-installed.ensures.err) (Keeps-refl _))

pub returns-in-Ok : goal.returns-in-Ok
returns-in-Ok g c =
    holds_more
    (DueSeenFile (g.P.Opener.gives c.args.opener.now) c.args.why.now.asked c.args.request.now
    (map installed_pickle c.in_ok-installed.installed.items) c.in-Ok.formats)
    _ c.show_file.result _ _
    (λ lines end due. among c.in_ok-installed.ensures.ok (rw c.deref.ensures.value at c.in-Ok.ensures.ok) due)
    (rw c.deref-in-Ok.ensures.value at c.show_file.ensures)

pub returns : goal.returns
returns g c =
    formatless_holds (g.P.Opener.gives c.args.opener.now) None _ _
    c.in_ok-installed.ensures.ok
    c.in-Err.formatless c.end_formatless.result _ _ (rw c.deref.ensures.value at c.in-Err.ensures.err)
    c.end_formatless.ensures (Keeps-refl _)
