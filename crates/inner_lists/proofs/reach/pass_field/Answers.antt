-- `pass_field`: a field before the one on the path stops, is absent, or is a value whose constraint holds.
use Rattle.std.proofs.Common.{◌∙◌, refl, arith}
use Rattle.std.proofs.lemmas.Result.{err_from_is_err_and}
use Rattle.bit_space.specs.SpaceView.{HasRisen}
use Rattle.list_laws.specs.Meanings.{bytes_in}
use Rattle.pickle_types.specs.Table.{name_of, optional_term, type_of}
use Rattle.inner_lists.specs.Calls.{frames_of}
use Rattle.inner_lists.proofs.Passing.{absent_leads, condition_stops, constraint_stops, label_stops, tick_stops, type_stops, value_leads}
use Rattle.inner_lists.proofs.reach.pass_field.Goals as goal

pub returns-in_err-tick-clause-is : goal.returns-in_err-tick-clause-is
returns-in_err-tick-clause-is g c =
    let p = err_from_is_err_and c.from_residual.result c.from_residual.ensures.1 in
    let none = c.in_err-tick.ensures.refused.0 refl in
    let still = c.in_err-tick.ensures.err in
    rw (p.1, p.2)
    (λ rest place path top is. tick_stops _ ⊥ _ _ _ _ _ _ _ _ rest _ path _ _ _ _ _ _ is _ (still ∙ none) none)

pub returns-in_err-is_there-clause-is : goal.returns-in_err-is_there-clause-is
returns-in_err-is_there-clause-is g c =
    let p = err_from_is_err_and c.from_residual-in_err-is_there.result c.from_residual-in_err-is_there.ensures.1 in
    let taken = c.in_ok-tick.ensures.ok in
    let limit = c.in_ok-tick.ensures.limit in
    let is = c.in_err-is_there.ensures.is c.args.mapper.now.nodes.now in
    rw (p.1, p.2)
    (λ rest place path top leads. condition_stops _ _ _ _ _ _ _ _ _ _ rest _ path _ _ _ _ _ _ leads _ _ _ _ _
    c.from-start.ensures limit taken is)

pub returns-then-not-branch-clause-is : goal.returns-then-not-branch-clause-is
returns-then-not-branch-clause-is g c = λ rest place path top.
    let taken = c.in_ok-tick.ensures.ok in
    let is = c.in_ok-is_there.ensures.is c.args.mapper.now.nodes.now in
    let gone = rw (c.from-start.ensures, c.if-not-branch.true) at is.0 in
    let steps = is.1 in
    absent_leads _ ⊥ _ _ _ _ _ _ _ _ rest place path _ _ _ _ 0 _ _ _
    (c.in_ok-push_absent.ensures.ok c.args.mapper.now.nodes.now) (omega (arith, steps, taken)) gone

pub returns-in_err-place-clause-is : goal.returns-in_err-place-clause-is
returns-in_err-place-clause-is g c =
    let p = err_from_is_err_and c.from_residual-in_err-place.result c.from_residual-in_err-place.ensures.1 in
    let taken = c.in_ok-tick.ensures.ok in
    let is = c.in_ok-is_there.ensures.is c.args.mapper.now.nodes.now in
    let there = rw (c.from-start.ensures, c.if-not-branch.false) at is.0 in
    let steps = is.1 in
    let limit = c.in_ok-is_there.ensures.meter.limit ∙ c.in_ok-tick.ensures.limit in
    let label = c.in_err-place.ensures.is c.args.mapper.now.nodes.now in
    rw (p.1, p.2)
    (λ rest place path top leads. label_stops _ _ _ _ _ _ _ _ _ _ rest _ path _ _ _ _ _ _ leads _ _ _ _ limit
    (omega (arith, steps, taken)) there label)

pub returns-in_err-end-clause-is : goal.returns-in_err-end-clause-is
returns-in_err-end-clause-is g c =
    let p = err_from_is_err_and c.from_residual-in_err-end.result c.from_residual-in_err-end.ensures.1 in
    let taken = c.in_ok-tick.ensures.ok in
    let is = c.in_ok-is_there.ensures.is c.args.mapper.now.nodes.now in
    let there = rw (c.from-start.ensures, c.if-not-branch.false) at is.0 in
    let steps = is.1 in
    let start = c.in_ok-place.ensures.is c.args.mapper.now.nodes.now in
    let more = start.1 in
    let limit = c.in_ok-place.ensures.meter.limit ∙ c.in_ok-is_there.ensures.meter.limit
    ∙ c.in_ok-tick.ensures.limit in
    rw (p.1, p.2)
    (λ rest place path top leads. type_stops (bytes_in (g.S.Space.view c.args.space.now))
    (HasRisen (g.S.Space.view c.args.space.now).failures (g.S.Space.view c.map_type.new.space).failures)
    c.args.whole.pinned c.args.whole.start (name_of c.args.field.now.name) c.args.field.now.order
    (type_of c.args.mapper.now.nodes.now c.args.field.now.node) (optional_term c.args.field.now.constraint)
    (optional_term c.args.field.now.label) (optional_term c.args.field.now.condition) rest place path
    c.args.whole.order (frames_of c.args.mapper.now) c.args.behind top c.args.mapper.now.meter.now.limit
    c.args.mapper.now.meter.now.steps c.in_ok-place.place c.find_start.new.meter.steps c.byte_order-order.result
    there start.0 (omega (arith, steps, taken, more)) c.byte_order-order.ensures leads c.find_start.new.meter.limit
    c.map_type.new.mapper.meter.now.steps c.in_err-end.field-0.0 limit c.in_err-end.ensures.is)

pub returns-in_err-check-clause-is : goal.returns-in_err-check-clause-is
returns-in_err-check-clause-is g c =
    let p = err_from_is_err_and c.from_residual-in_err-check.result c.from_residual-in_err-check.ensures.1 in
    let taken = c.in_ok-tick.ensures.ok in
    let is = c.in_ok-is_there.ensures.is c.args.mapper.now.nodes.now in
    let there = rw (c.from-start.ensures, c.if-not-branch.false) at is.0 in
    let steps = is.1 in
    let start = c.in_ok-place.ensures.is c.args.mapper.now.nodes.now in
    let more = start.1 in
    let limit = c.in_ok-end.ensures.frame.left.limit ∙ c.in_ok-place.ensures.meter.limit
    ∙ c.in_ok-is_there.ensures.meter.limit ∙ c.in_ok-tick.ensures.limit in
    let held = c.in_ok-end.ensures.is in
    let checked = c.in_err-check.ensures.is c.map_type.new.mapper.nodes.now in
    rw (p.1, p.2)
    (λ rest place path top leads. constraint_stops _ _ _ _ _ _ _ _ _ _ rest place path _ _ _ _ _ _ _ _ _ there start.0
    (omega (arith, steps, taken, more)) c.byte_order-order.ensures _ _ _ _ held.comes held.kept held.ends leads _ _ _
    limit checked)

pub returns-clause-is : goal.returns-clause-is
returns-clause-is g c = λ rest place path top.
    let taken = c.in_ok-tick.ensures.ok in
    let is = c.in_ok-is_there.ensures.is c.args.mapper.now.nodes.now in
    let there = rw (c.from-start.ensures, c.if-not-branch.false) at is.0 in
    let steps = is.1 in
    let start = c.in_ok-place.ensures.is c.args.mapper.now.nodes.now in
    let more = start.1 in
    let held = c.in_ok-end.ensures.is in
    let checked = c.in_ok-check.ensures.is c.map_type.new.mapper.nodes.now in
    value_leads _ ⊥ _ _ _ _ _ _ _ _ rest place path _ _ _ _ 0 _ _ _ _ there start.0
    (omega (arith, steps, taken, more)) c.byte_order-order.ensures _ _ _ _ held.comes held.kept held.ends _ checked.0
    checked.1
