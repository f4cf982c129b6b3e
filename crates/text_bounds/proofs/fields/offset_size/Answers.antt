use Rattle.std.proofs.Common.{ap, ◌∙◌, arith}
use Rattle.pickle_types.specs.Bounds.{least_width}
use Rattle.text_bounds.specs.TextRoom.{size_of, rooms_in, no_size}
use Rattle.text_bounds.proofs.fields.offset_size.Goals as goal

pub returns : goal.returns
unfolding least_width size_of
returns c =
    let line = c.line_room.ensures.count ∙ ap ((rooms_in c.args.form).line c.args.bits) c.from-width.ensures in
    record {
      least = c.from-width.ensures;
      size = c.with_parts.ensures _ no_size (omega (arith, c.offset_room.ensures.count, line)) c.no_size.ensures;
    }
