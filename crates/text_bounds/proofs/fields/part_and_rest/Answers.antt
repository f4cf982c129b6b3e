use Rattle.std.proofs.Common.{refl}
use Rattle.text_bounds.specs.TextRoom.{size_of}
use Rattle.text_bounds.proofs.TextNodes.{least_with_rest}
use Rattle.text_bounds.proofs.fields.part_and_rest.Goals as goal

pub returns : goal.returns
unfolding size_of
returns c type parts m h g = record {
  empty = refl;
  least = least_with_rest _ _ _ m type parts c.args.rest.is_empty _ _ _ g.empty h.least g.least
      c.least_before-least.ensures.last c.least_before-least.ensures.more;
  all = c.both-all.ensures _ _ (c.place_part.ensures _ h.size) g.all;
  greatest = c.greater-greatest.ensures _ _ (c.place_part-2.ensures _ h.size) g.greatest;
}
