use Rattle.std.proofs.Common.{refl, subst}
use Rattle.std.proofs.lemmas.List.{take_all}
use Rattle.identification.specs.Prepared.{AreRead}
use Rattle.identification.proofs.Lines.{read_next, pickle_unfit}
use Rattle.identification.proofs.prepare.read_all.Goals as goal

pub loop-place-preserved : goal.loop-place-preserved
loop-place-preserved c =
    read_next c.args.sources.now c.loop-place.place _ _ c.loop-place.list.items c.read_one.new.list.items
    c.loop-place-test.true refl c.loop-place.invariant c.in-Ok.ensures.ok

pub returns-in-Err-clause-err : goal.returns-in-Err-clause-err
returns-in-Err-clause-err c =
    pickle_unfit c.args.sources.now c.loop-place.place _ _ c.in-Err.why c.loop-place-test.true refl c.in-Err.ensures.err

pub returns-clause-ok : goal.returns-clause-ok
returns-clause-ok c =
    subst (λ ss. AreRead ss c.loop-place.list.items)
    (take_all c.loop-place.place c.args.sources.now c.loop-place-test.false) c.loop-place.invariant
