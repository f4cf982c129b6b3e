use Rattle.std.proofs.Common.{arith}
use Rattle.pickle_types.specs.Bounds.{least_width}
use Rattle.pickle_types.specs.Table.{name_of}
use Rattle.text_bounds.specs.TextRoom.{size_of}
use Rattle.text_bounds.proofs.fields.struct_size.Goals as goal

pub returns : goal.returns
unfolding least_width size_of
returns c all h = record {
  least = c.least_of_fields-least.ensures (name_of c.args.name.now) _ _ _ _ h;
  size = c.with_parts.ensures _ _ (omega (arith, c.titled_room.ensures.count, c.line_room.ensures.count)) h.size;
}
