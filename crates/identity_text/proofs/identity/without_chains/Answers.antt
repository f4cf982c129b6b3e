use Rattle.bit_space.specs.declared.order.Order.TheVariants.{Big}
use Rattle.identification.specs.declared.fit.Ranked.{Ranked}
use Rattle.identity_text.proofs.Copied.{one_more, all_copied}
use Rattle.identity_text.proofs.identity.without_chains.Goals as goal

pub loop-own-preserved : goal.loop-own-preserved
loop-own-preserved c =
    let d : Ranked = record {
      fit = record { place = 0; order = Big; measured = record { constrained = 0; size = 0 } };
      closer = 0;
    } in
    one_more c.args.ranked.now c.loop-own.own-index d c.loop-own-test.true _ _ c.loop-own.invariant
    c.in_ok-push.ensures.items

pub returns : goal.returns
returns c = all_copied c.args.ranked.now c.loop-own.own-index c.loop-own-test.false _ c.loop-own.invariant
