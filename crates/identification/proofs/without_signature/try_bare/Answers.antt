use Rattle.std.proofs.Common.{◌∙◌, ap, refl, sym}
use Rattle.std.proofs.lemmas.Result.{on_ok_weaker}
use Rattle.std.specs.Option.{option_copied}
use Rattle.bit_space.specs.Bits.{bits_of}
use Rattle.identification.proofs.Bare.{not_bare, one_missing, one_tried, only_memory}
use Rattle.identification.proofs.without_signature.try_bare.Goals as goal

pub returns-in_default-clause-ok : goal.returns-in_default-clause-ok
returns-in_default-clause-ok g c formats bytes known there so_far =
    let none = sym c.bare_type.ensures.found ∙ ap option_copied c.in_default.is in
    one_missing formats c.args.start (bits_of bytes) c.args.place c.args.others.now so_far c.args.others.now
    (λ maps. not_bare formats c.args.place c.args.format.now there none maps.type maps.order maps.whole maps.bare)
    (λ cut. not_bare formats c.args.place c.args.format.now there none cut.type cut.order cut.whole cut.bare)
    refl refl

pub returns-clause-ok : goal.returns-clause-ok
returns-clause-ok g c formats bytes known there so_far =
    on_ok_weaker c.add.result
    (λ adds. one_tried formats c.args.place c.args.format.now there c.in-Some.documented.now
    (sym c.in-Some.ensures.found) c.args.start (bits_of bytes) c.args.others.now c.add.new.others _ so_far
    (c.in_ok-attempt.ensures.ok bytes known) adds)
    (rw c.order_of.ensures at c.add.ensures.ok)

pub returns-clause-err : goal.returns-clause-err
returns-clause-err g c = only_memory _ _ c.add.result c.add.ensures.err
