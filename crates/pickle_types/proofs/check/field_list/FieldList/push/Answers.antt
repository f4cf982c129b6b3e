use Rattle.std.proofs.Common.{◌≡◌, length, Some, refl, sym, ap, ◌∙◌, arith}
use Rattle.pickle_types.specs.declared.check.field_list.FieldList.{FieldList}
use Rattle.pickle_types.specs.Built.{bytes_now, words_in}
use Rattle.pickle_types.proofs.Listed.{list_few, list_nameless, list_named}
use Rattle.pickle_types.proofs.check.field_list.FieldList.push.Goals as goal

pub returns-in_default-clause-list : goal.returns-in_default-clause-list
returns-in_default-clause-list c =
    let l = c.args.self.now in
    let new : FieldList = record { fields = c.push.new.self; places = l.places } in
    list_few (words_in c.args.names.now) l new c.args.field c.requires.list (rw c.requires.name c.requires.fresh)
    c.in_ok-push.ensures.items c.in_default.is

pub returns-in_default-name-clause-list : goal.returns-in_default-name-clause-list
returns-in_default-name-clause-list c =
    let l = c.args.self.now in
    let new : FieldList = record { fields = c.push.new.self; places = Some c.in-Some.places } in
    let none = c.requires.name ∙ ap bytes_now c.in_default-name.is in
    list_nameless (words_in c.args.names.now) l new c.args.field c.requires.list (rw c.requires.name c.requires.fresh)
    c.in_ok-push.ensures.items none (sym c.in-Some.is)

pub returns-clause-list : goal.returns-clause-list
returns-clause-list c =
    let l = c.args.self.now in
    let new : FieldList = record { fields = c.push.new.self; places = Some c.insert.new.self } in
    let name = c.requires.name ∙ ap bytes_now c.in-Some-name.is in
    let count : c.len-place.result ≡ length l.fields.items = omega arith in
    list_named (words_in c.args.names.now) l new c.args.field c.requires.list (rw c.requires.name c.requires.fresh)
    c.in_ok-push.ensures.items
    (words_in c.number.new.self) c.in-Some-name.name.now c.in_ok-number.number c.in-Some.places c.insert.new.self name
    c.in-Some.is refl c.in_ok-number.ensures.kept c.in_ok-number.ensures.numbered
    (λ n. rw (← count) (c.in_ok-insert.ensures.updates.0 n))
