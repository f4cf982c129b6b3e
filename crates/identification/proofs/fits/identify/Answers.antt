use Rattle.identification.proofs.fits.identify.Goals as goal

pub returns-in-Ok-clause-ok : goal.returns-in-Ok-clause-ok
returns-in-Ok-clause-ok g c bytes known =
    let are = rw c.deref.ensures.value at c.in_ok-fits.ensures.ok bytes known in
    let ranks = rw (c.deref-2.ensures.value, c.deref-3.ensures.value) at c.in-Ok.ensures in
    record { fits = c.in_ok-fits.fits.items; are = are; order = ranks are.rising }
