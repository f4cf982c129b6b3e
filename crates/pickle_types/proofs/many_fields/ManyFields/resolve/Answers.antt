use Rattle.std.proofs.Common.{◌<◌, length, sym, subst, ◌∙◌, arith}
use Rattle.std.proofs.lemmas.List.{length-map}
use Rattle.pickle_types.specs.Built.{IsInLevel}
use Rattle.pickle_types.proofs.Places.{meant_none, meant_within, meant_some, field_at}
use Rattle.pickle_types.proofs.many_fields.ManyFields.resolve.Goals as goal

pub index-requires : goal.index-requires
index-requires c =
    let within : c.in-Some.place < length c.self.inside.entries.items =
    meant_within _ c.self.inside.places c.self.invariant c.args.word.now _ (sym c.find.ensures ∙ c.in-Some.is) in
    omega arith

pub returns-in-None-clause-found : goal.returns-in-None-clause-found
returns-in-None-clause-found c nodes = rw (← c.self.view_is) (meant_none c.self.inside.entries.items
    c.self.inside.places c.self.invariant c.args.word.now nodes (sym c.find.ensures ∙ c.in-None.is))

pub returns-in-Some-clause-found : goal.returns-in-Some-clause-found
returns-in-Some-clause-found c nodes =
    rw (← c.self.view_is) (meant_some c.self.inside.entries.items c.self.inside.places c.self.invariant c.args.word.now
    nodes c.in-Some.place c.index.result.now (sym c.find.ensures ∙ c.in-Some.is) c.index.ensures)

pub returns-in-Some-clause-inside : goal.returns-in-Some-clause-inside
returns-in-Some-clause-inside c n levels below =
    let es = c.self.inside.entries.items in
    let field = c.index.result.now.field in
    let some = sym c.find.ensures ∙ c.in-Some.is in
    let within : c.in-Some.place < length es =
    meant_within es c.self.inside.places c.self.invariant c.args.word.now c.in-Some.place some in
    let same = field_at es c.self.inside.places c.self.invariant c.args.word.now c.in-Some.place c.index.result.now
    some c.index.ensures in
    let long = length-map es (λ x. x.field) in
    let all = rw (← c.self.view_is) at below in
    subst (IsInLevel n levels) (sym same) (all c.in-Some.place field (omega arith))
