use Rattle.std.proofs.Common.{refl, ap, ◌∙◌, arith}
use Rattle.pickle_types.specs.Bounds.{least_width}
use Rattle.text_bounds.specs.TextRoom.{size_of, rooms_in}
use Rattle.text_bounds.proofs.fields.array_size.Goals as goal

pub returns : goal.returns
unfolding least_width size_of
returns c type bound h =
    let count = c.elements-count.ensures.count _ h.least in
    let own = c.array_room.ensures.count ∙ ap (rooms_in c.args.form).array count in
    let before = c.element_before-before.ensures.count ∙ ap (rooms_in c.args.form).element_before count in
    let moves = c.element_moves-moves.ensures.count ∙ ap (rooms_in c.args.form).element_moves count in
    record {
      least = refl;
      size = c.or_text.ensures _ _ count
          (c.with_parts-array.ensures _ _ (omega (arith, own, c.line_room.ensures.count))
          (c.elements_size-parts.ensures _ _ count (c.move_part.ensures _ _ _ before moves h.size)));
    }
