use Rattle.std.proofs.Common.{length, refl, sym, ◌∙◌}
use Rattle.std.proofs.lemmas.Option.{slice_get_read}
use Rattle.pickle_types.proofs.Lists.{field_called}
use Rattle.pickle_types.proofs.check.field_names.is_field_called.Goals as goal

pub returns-in-Some : goal.returns-in-Some
returns-in-Some c is =
    let read = c.in-Some.ensures.lookup in
    let fields = c.args.fields.now in
    let at = slice_get_read fields (length fields) c.args.place c.in-Some.field.now refl read.3.0 read.1 in
    field_called fields c.args.place c.in-Some.field.now c.args.word.now at (sym c.is_called.ensures ∙ is)
