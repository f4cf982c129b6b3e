use Rattle.std.proofs.Common.{ap, ◌∙◌, arith}
use Rattle.pickle_types.specs.Bounds.{least_width}
use Rattle.text_bounds.specs.TextRoom.{size_of, rooms_in}
use Rattle.text_bounds.proofs.fields.integral_size.Goals as goal

pub returns : goal.returns
unfolding least_width size_of
returns c all h =
    let line = c.line_room.ensures.count ∙ ap ((rooms_in c.args.form).line c.args.bits) c.from-width.ensures in
    record {
      least = c.from-width.ensures;
      size = c.with_parts.ensures _ _ (omega (arith, c.titled_room.ensures.count, line)) h.all;
    }
