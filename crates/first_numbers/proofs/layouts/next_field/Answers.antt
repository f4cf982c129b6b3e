use Rattle.std.proofs.Common.{◌∙◌, IfOk, ap, subst, sym}
use Rattle.pickle_types.specs.Table.{optional_term}
use Rattle.first_numbers.specs.Held.{GoesOn}
use Rattle.first_numbers.specs.Layouts.{sure_place}
use Rattle.first_numbers.proofs.Steps.{takes_field, takes_nowhere}
use Rattle.first_numbers.proofs.layouts.next_field.Goals as goal

pub returns-in-None-clause-is : goal.returns-in-None-clause-is
returns-in-None-clause-is c =
    takes_nowhere c.args.pinned c.args.field.now c.args.mine.now c.args.b
    (ap (sure_place (optional_term c.args.field.now.condition)) (sym c.field_place.ensures)
    ∙ sym c.sure_place.ensures ∙ c.in-None.is)

pub returns-in_ok-part-in-Some-clause-is : goal.returns-in_ok-part-in-Some-clause-is
returns-in_ok-part-in-Some-clause-is c =
    takes_field c.args.pinned c.args.field.now c.args.mine.now c.args.b c.in-Some.place c.in_ok-part-in-Some.part
    c.field_then.result
    (ap (sure_place (optional_term c.args.field.now.condition)) (sym c.field_place.ensures)
    ∙ sym c.sure_place.ensures ∙ c.in-Some.is)
    c.in_ok-part-in-Some.ensures.is
    (subst (λ lead. IfOk c.field_then.result
    (GoesOn c.in_ok-part-in-Some.part c.in-Some.place lead c.args.field.now.order c.args.b)) c.lead_steps-lead.ensures
    c.field_then.ensures.is)
