use Rattle.std.proofs.Common.{refl, arith}
use Rattle.pickle_types.specs.Bounds.{least_width}
use Rattle.text_bounds.specs.TextRoom.{size_of, no_size}
use Rattle.text_bounds.proofs.fields.string_size.Goals as goal

pub returns : goal.returns
unfolding least_width size_of
returns c = record {
  least = refl;
  size = c.with_parts.ensures _ no_size
      (omega (arith, c.string_room.ensures.count, c.line_room.ensures.count)) c.no_size.ensures;
}
