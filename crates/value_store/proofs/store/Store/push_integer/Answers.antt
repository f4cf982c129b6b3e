use Rattle.std.proofs.Common.{rules, ◌+◌, Some, ◌∙◌, subst}
use Rattle.std.proofs.lemmas.Int.{to_z-of_z}
use mir.Syntax.{w128}
use mir.Val.{SFits}
use Rattle.std.specs.Prelude.{OnOk, OnErr}
use Rattle.pickle_meaning.specs.Values.{Mapped, NoMembers, IntegerLabel}
use Rattle.value_store.specs.Keeping.{IsPushed, CannotPush}
use Rattle.value_store.proofs.Numbers.{adds-number}
use Rattle.value_store.specs.declared.store.slots.Shape.TheVariants.{Integer}
use Rattle.value_store.proofs.store.Store.push_integer.Goals as goal

pub returns-clause-ok : goal.returns-clause-ok
returns-clause-ok c =
    let fits : SFits w128 c.with_sign.result = search rules in
    subst (λ z. OnOk c.place_number.result (IsPushed c.args.self.now c.place_number.new.self
    (Some (Mapped (IntegerLabel z c.args.number) c.args.start (c.args.start + c.args.number.width) NoMembers))))
    (c.content_of.ensures ∙ to_z-of_z w128 _ fits ∙ c.with_sign.ensures.is) c.place_number.ensures.ok

pub returns-clause-full : goal.returns-clause-full
returns-clause-full c =
    let fits : SFits w128 c.with_sign.result = search rules in
    subst (λ z. OnErr c.place_number.result (CannotPush c.args.self.now
    (Some (Mapped (IntegerLabel z c.args.number) c.args.start (c.args.start + c.args.number.width) NoMembers))))
    (c.content_of.ensures ∙ to_z-of_z w128 _ fits ∙ c.with_sign.ensures.is) c.place_number.ensures.full

pub returns-clause-adds : goal.returns-clause-adds
returns-clause-adds c = adds-number c.place_number.result c.args.self.now c.place_number.new.self
    (Integer c.args.number.width c.args.number.signed) c.args.start c.content_of.result c.place_number.ensures.adds
