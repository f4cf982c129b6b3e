use Rattle.std.proofs.Common.{refl, ◌∙◌}
use Rattle.pickle_types.proofs.Selections.{field_found, found_past, found_item}
use Rattle.pickle_types.proofs.check.sorts.field_at.Goals as goal

pub returns-in_err-place-clause-found : goal.returns-in_err-place-clause-found
returns-in_err-place-clause-found c at word h =
    let none = c.in_err-place.was in
    rw c.from_residual.ensures (field_found at word 0 c.args.fields.now ∙ rw (← h, none) refl)

pub returns-in_err-field-clause-found : goal.returns-in_err-field-clause-found
returns-in_err-field-clause-found c at word h =
    let some = c.in_ok-place.was in
    let past = c.in_err-field.ensures.lookup.3 in
    rw c.from_residual-in_err-field.ensures
    (field_found at word 0 c.args.fields.now ∙ rw (← h, some) (found_past _ c.args.fields.now _ past))

pub returns-clause-found : goal.returns-clause-found
returns-clause-found c at word h =
    let some = c.in_ok-place.was in
    let read = c.in_ok-field.ensures.lookup in
    field_found at word 0 c.args.fields.now
    ∙ rw (← h, some) (found_item _ c.args.fields.now _ c.in_ok-field.field.now read.3.0 read.1)
