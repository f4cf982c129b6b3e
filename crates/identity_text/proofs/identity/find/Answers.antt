use Rattle.std.proofs.Common.{refl}
use Rattle.std.proofs.lemmas.Result.{err_from_is_err_and}
use Rattle.identity_text.proofs.Found.{added_later, all_found, stopped_later}
use Rattle.identity_text.specs.Identities.{attempt_stops, lacks_memory}
use Rattle.identity_text.proofs.identity.find.Goals as goal

pub returns-in-Err-clause-err : goal.returns-in-Err-clause-err
returns-in-Err-clause-err g c = attempt_stops c.in-Err.ensures.err

pub returns-in_err-fits-clause-err : goal.returns-in_err-fits-clause-err
returns-in_err-fits-clause-err g c =
    let p = err_from_is_err_and c.from_residual.result c.from_residual.ensures.1 in
    rw (p.1, p.2) (stopped_later c.args.formats.now _ _ _ c.identify.ensures.keeps c.others_of.ensures.keeps _
    c.in_err-fits.ensures.err)

pub returns-in-Ok-joined-clause-ok : goal.returns-in-Ok-joined-clause-ok
returns-in-Ok-joined-clause-ok g c =
    all_found c.args.formats.now c.args.all c.args.start _ c.in-Ok.ranked.items c.in_ok-fits.field-0 _ _
    c.in-Ok.ensures.ok
    (added_later c.args.formats.now _ _ c.identify.ensures.keeps c.args.all c.args.start _ c.in_ok-fits.ensures.ok)
    (rw (c.deref.ensures.value, c.deref-2.ensures.value) at c.in-Ok-joined.ensures) refl

pub returns-clause-err : goal.returns-clause-err
returns-clause-err g c = lacks_memory
