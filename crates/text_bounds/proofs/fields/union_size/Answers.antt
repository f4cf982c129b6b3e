use Rattle.std.proofs.Common.{arith}
use Rattle.pickle_types.specs.Bounds.{least_width}
use Rattle.text_bounds.specs.TextRoom.{size_of}
use Rattle.text_bounds.proofs.fields.union_size.Goals as goal

pub returns : goal.returns
unfolding least_width size_of
returns c all h = record {
  least = h.least;
  size = c.with_parts.ensures _ _ (omega (arith, c.titled_room.ensures.count, c.line_room.ensures.count)) h.greatest;
}
