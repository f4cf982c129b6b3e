use Rattle.std.proofs.Common.{◌+◌, sym, refl, subst}
use Rattle.std.proofs.lemmas.Result.{err_from_is_err_and}
use Rattle.bit_space.specs.Bits.{bits_of}
use Rattle.pickle_types.specs.TypeTable.{type_named}
use Rattle.identification.specs.Attempts.{Measures}
use Rattle.identification.specs.Fits.{FitsBefore}
use Rattle.identification.specs.Ranking.{turn}
use Rattle.identification.proofs.Tries.{one_misses, one_fits, unmapped, is_fit, stops_trying}
use Rattle.identification.proofs.fits.try_order.Goals as goal

pub returns-in_err-measured-clause-err : goal.returns-in_err-measured-clause-err
returns-in_err-measured-clause-err g c formats there =
    let p = err_from_is_err_and c.from_residual.result c.from_residual.ensures.1 in
    rw (p.1, p.2) (stops_trying formats c.args.place c.args.order c.args.format.now there c.in-Some.id
    (sym c.in-Some.ensures.found) _ _ _ c.in_err-measured.ensures.err)

pub returns-in_default-2-clause-ok : goal.returns-in_default-2-clause-ok
returns-in_default-2-clause-ok g c formats bytes known there so_far =
    one_misses formats c.args.start (bits_of bytes) c.args.place c.args.order c.args.fits.now.items so_far
    (unmapped formats c.args.place c.args.order c.args.format.now there c.in-Some.id (sym c.in-Some.ensures.found)
    c.args.start (bits_of bytes)
    (subst (Measures (bits_of bytes) (type_named c.args.format.now.table c.in-Some.id) c.args.order c.args.start)
    c.in_default-2.is (c.in_ok-measured.ensures.ok bytes known)))

pub returns-in-Ok-clause-ok : goal.returns-in-Ok-clause-ok
returns-in-Ok-clause-ok g c formats bytes known there so_far =
    subst (FitsBefore formats c.args.start (bits_of bytes) (turn c.args.place c.args.order + 1))
    (sym c.in-Ok.ensures.items)
    (one_fits formats c.args.start (bits_of bytes) c.args.place c.args.order c.args.fits.now.items so_far
    (record { place = c.args.place; order = c.args.order; measured = c.in-Some-2.measured }) refl refl
    (is_fit formats c.args.place c.args.order c.args.format.now there c.in-Some.id (sym c.in-Some.ensures.found)
    c.args.start (bits_of bytes) c.in-Some-2.measured
    (subst (Measures (bits_of bytes) (type_named c.args.format.now.table c.in-Some.id) c.args.order c.args.start)
    c.in-Some-2.is (c.in_ok-measured.ensures.ok bytes known))))
