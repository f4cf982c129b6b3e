use Rattle.std.proofs.Common.{refl}
use Rattle.pickle_types.specs.Table.{name_of, optional_term}
use Rattle.tight_bounds.specs.Tight.{width, own, fixed}
use Rattle.tight_bounds.proofs.Known.{least_with_rest, own_with_rest}
use Rattle.tight_bounds.proofs.part_grains.part_and_rest.Goals as goal

pub returns : goal.returns
unfolding width own fixed
returns c type rest h g =
    let part = c.args.part.now in
    let first = c.own_grains-first.ensures in
    let missed = c.part_missed-missed.ensures _ _ h.missed (c.whole.ensures _ _ h.fixed h.rate) in
    let digit = c.part_missed-digit.ensures _ _ h.missed h.fixed in
    let later = c.if_followed-later.ensures rest _ g.empty (c.before-2.ensures _ _ g.fixed missed) in
    let tried = c.greater_of-tried.ensures _ _ h.attempt (c.before-3.ensures _ _ g.attempt missed) in
    record {
      empty = refl;
      width = least_with_rest (name_of part.name) part.order (optional_term part.constraint) type rest _ _ _ _
          g.empty h.width g.width c.lesser_with.ensures.last c.lesser_with.ensures.more;
      own = own_with_rest (name_of part.name) part.order (optional_term part.constraint) type rest _ _ _ _
          g.empty h.own g.own c.lesser_with-2.ensures.last c.lesser_with-2.ensures.more;
      fixed = c.sum_of.ensures _ _ first (c.greater_of.ensures _ _ h.fixed later);
      rate = c.greater_of-2.ensures _ _ h.rate g.rate;
      attempt = c.sum_of-2.ensures _ _ first tried;
      missed = c.before-4.ensures _ _ first (c.both_missed.ensures _ _ g.missed missed);
      digits_fixed = c.sum_of-4.ensures _ _ first (c.sum_of-3.ensures _ _ h.fixed g.digits_fixed);
      digits_missed = c.greater_of-3.ensures _ _ (c.before-5.ensures _ _ first digit)
          (c.before-6.ensures _ _ (c.sum_of-5.ensures _ _ first h.fixed) g.digits_missed);
    }
