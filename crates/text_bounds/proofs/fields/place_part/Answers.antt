use Rattle.text_bounds.proofs.fields.place_part.Goals as goal

pub returns : goal.returns
returns c size h = c.move_part.ensures _ _ _ c.field_before-before.ensures.count c.field_moves-moves.ensures.count h
