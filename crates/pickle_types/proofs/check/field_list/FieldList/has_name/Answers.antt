use Rattle.std.proofs.Common.{sym, ap, ◌∙◌}
use Rattle.std.specs.Prelude.{is_some}
use Rattle.pickle_types.specs.Built.{names_in, words_in}
use Rattle.pickle_types.specs.Numbers.{in_map, at_number}
use Rattle.pickle_types.proofs.Placed.{placed_is}
use Rattle.pickle_types.proofs.Listed.{list_has}
use Rattle.pickle_types.proofs.check.field_list.FieldList.has_name.Goals as goal

pub returns-in_default : goal.returns-in_default
returns-in_default c =
    c.is_some.ensures ∙ ap is_some c.field_place.ensures
    ∙ rw c.deref.ensures.value (placed_is c.args.word.now (names_in c.args.self.now.fields.items))

pub returns-in-None : goal.returns-in-None
returns-in-None c =
    let places = c.in-Some.places in
    let has = list_has (words_in c.args.names.now) c.args.self.now places c.args.word.now c.requires c.in-Some.is in
    let none = sym c.number_of.ensures ∙ c.in-None.is in
    sym (has ∙ ap (λ o. is_some (at_number (in_map places) o)) none)

pub returns-in-Some-number_of : goal.returns-in-Some-number_of
returns-in-Some-number_of c =
    let places = c.in-Some.places in
    let has = list_has (words_in c.args.names.now) c.args.self.now places c.args.word.now c.requires c.in-Some.is in
    let some = sym c.number_of.ensures ∙ c.in-Some-number_of.is in
    c.contains_key.ensures ∙ sym (has ∙ ap (λ o. is_some (at_number (in_map places) o)) some)
