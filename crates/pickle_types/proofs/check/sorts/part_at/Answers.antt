use Rattle.std.proofs.Common.{refl, ◌∙◌}
use Rattle.pickle_types.proofs.Selections.{part_found, found_past, found_item}
use Rattle.pickle_types.proofs.check.sorts.part_at.Goals as goal

pub returns-in_err-place-clause-found : goal.returns-in_err-place-clause-found
returns-in_err-place-clause-found c at word h =
    let none = c.in_err-place.was in
    rw c.from_residual.ensures (part_found at word 0 c.args.parts.now ∙ rw (← h, none) refl)

pub returns-in_err-part-clause-found : goal.returns-in_err-part-clause-found
returns-in_err-part-clause-found c at word h =
    let some = c.in_ok-place.was in
    let past = c.in_err-part.ensures.lookup.3 in
    rw c.from_residual-in_err-part.ensures
    (part_found at word 0 c.args.parts.now ∙ rw (← h, some) (found_past _ c.args.parts.now _ past))

pub returns-clause-found : goal.returns-clause-found
returns-clause-found c at word h =
    let some = c.in_ok-place.was in
    let read = c.in_ok-part.ensures.lookup in
    part_found at word 0 c.args.parts.now
    ∙ rw (← h, some) (found_item _ c.args.parts.now _ c.in_ok-part.part.now read.3.0 read.1)
