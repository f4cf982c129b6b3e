-- `write_held`: the value that is stored is the one that is written.
use Rattle.std.proofs.Common.{◌∙◌, IfErr, IfOk, sym, subst}
use Rattle.std.proofs.lemmas.Option.{same_Some}
use Rattle.pickle_meaning.specs.Values.{Value}
use Rattle.records.specs.Next.{IsNotPut, IsPlaced, PutsHeld}
use Rattle.value_store.specs.Refs.{value_shown}
use Rattle.records.proofs.next.write_held.Goals as goal

pub write_due-requires : goal.write_due-requires
write_due-requires g c =
    let held = c.requires in
    subst (λ (value : Value). IsPlaced c.args.run.now value)
    (same_Some held.value (value_shown c.in-Some.value) (sym held.there ∙ sym c.in-Some.ensures)) held.placed

pub returns-clause-ok : goal.returns-clause-ok
returns-clause-ok g c = λ value there.
    subst (λ (value : Value). IfOk c.write_due.result (PutsHeld c.args.run.now c.args.listing c.args.before
    (g.S.Space.view c.args.space.now) (g.S.Space.view c.write_due.new.space) value
    (g.O.Write.contents c.args.out.now) (g.O.Write.contents c.write_due.new.out)))
    (same_Some (value_shown c.in-Some.value) value (c.in-Some.ensures ∙ there)) c.write_due.ensures.ok

pub returns-clause-err : goal.returns-clause-err
returns-clause-err g c = λ value there.
    subst (λ (value : Value). IfErr c.write_due.result (IsNotPut c.args.run.now c.args.listing c.args.before
    (g.S.Space.view c.args.space.now) (g.S.Space.view c.write_due.new.space) value
    (g.O.Write.contents c.args.out.now) (g.O.Write.contents c.write_due.new.out)))
    (same_Some (value_shown c.in-Some.value) value (c.in-Some.ensures ∙ there)) c.write_due.ensures.err
