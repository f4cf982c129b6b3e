use Rattle.std.proofs.Common.{map}
use Rattle.std.proofs.KnownBytes.{Keeps-refl}
use Rattle.std.proofs.lemmas.Result.{err_from_is_err_and}
use Rattle.std.specs.List.{flat_map}
use Rattle.jobs.specs.Formats.{DueFormats, formats_end, formats_listed, listed, unlisted}
use Rattle.jobs.specs.Installed.{installed_pickle}
use Rattle.jobs.proofs.Holding.{no_text, part_text, whole_text}
use Rattle.jobs.proofs.formats.list_formats.Goals as goal

pub returns-in_err-installed : goal.returns-in_err-installed
returns-in_err-installed g c =
    let p = err_from_is_err_and c.from_residual.result c.from_residual.ensures.1 in
    rw (p.1, p.2) (no_text _ _ _ _ (unlisted c.in_err-installed.ensures.err) (Keeps-refl _))

pub returns-in-Ok : goal.returns-in-Ok
returns-in-Ok g c =
    let pickles = map installed_pickle c.in_ok-installed.installed.items in
    rw (c.formats_end.ensures, c.deref-in-Ok.ensures.value)
    (whole_text (DueFormats (g.P.Opener.gives c.args.opener.now) c.args.form) (flat_map (listed c.args.form) pickles)
    (formats_end pickles) _ _ (formats_listed c.in_ok-installed.ensures.ok)
    (rw c.deref.ensures.value at c.in-Ok.ensures.ok))

pub returns : goal.returns
returns g c =
    let pickles = map installed_pickle c.in_ok-installed.installed.items in
    part_text (DueFormats (g.P.Opener.gives c.args.opener.now) c.args.form) (flat_map (listed c.args.form) pickles)
    (formats_end pickles) _ _ (formats_listed c.in_ok-installed.ensures.ok)
    (rw c.deref.ensures.value at c.in-Err.ensures.err)
