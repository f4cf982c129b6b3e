use Rattle.std.proofs.Common.{length, refl, sym, ◌∙◌}
use Rattle.std.proofs.lemmas.Option.{slice_get_read}
use Rattle.pickle_types.proofs.Lists.{part_called}
use Rattle.pickle_types.proofs.check.field_names.is_part_called.Goals as goal

pub returns-in-Some : goal.returns-in-Some
returns-in-Some c is =
    let read = c.in-Some.ensures.lookup in
    let parts = c.args.parts.now in
    let at = slice_get_read parts (length parts) c.args.place c.in-Some.part.now refl read.3.0 read.1 in
    part_called parts c.args.place c.in-Some.part.now c.args.word.now at (sym c.is_called.ensures ∙ is)
