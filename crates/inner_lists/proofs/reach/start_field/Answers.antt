-- `start_field`: a field on the path stops at its condition or label, is absent, or begins at a bit.
use Rattle.std.proofs.Common.{◌∙◌, refl, arith}
use Rattle.std.proofs.lemmas.Result.{err_from_is_err_and}
use Rattle.inner_lists.proofs.Passing.{condition_stops, into_leads, label_stops, lacks_comes, tick_stops}
use Rattle.inner_lists.proofs.reach.start_field.Goals as goal

pub returns-in_err-tick-clause-is : goal.returns-in_err-tick-clause-is
returns-in_err-tick-clause-is g c =
    let p = err_from_is_err_and c.from_residual.result c.from_residual.ensures.1 in
    let none = c.in_err-tick.ensures.refused.0 refl in
    let still = c.in_err-tick.ensures.err in
    rw (p.1, p.2)
    (λ space rest path is. tick_stops space ⊥ _ _ _ _ _ _ _ _ rest _ path _ _ _ _ _ _ is _ (still ∙ none) none)

pub returns-in_err-is_there-clause-is : goal.returns-in_err-is_there-clause-is
returns-in_err-is_there-clause-is g c =
    let p = err_from_is_err_and c.from_residual-in_err-is_there.result c.from_residual-in_err-is_there.ensures.1 in
    let taken = c.in_ok-tick.ensures.ok in
    let limit = c.in_ok-tick.ensures.limit in
    let is = c.in_err-is_there.ensures.is c.args.mapper.now.nodes.now in
    rw (p.1, p.2)
    (λ space rest path leads. condition_stops space ⊥ _ _ _ _ _ _ _ _ rest _ path _ _ _ _ _ _ leads _ _ _ _ _
    c.from-start.ensures limit taken is)

pub returns-then-not-branch-clause-is : goal.returns-then-not-branch-clause-is
returns-then-not-branch-clause-is g c = λ space rest path.
    let taken = c.in_ok-tick.ensures.ok in
    let is = c.in_ok-is_there.ensures.is c.args.mapper.now.nodes.now in
    let gone = rw (c.from-start.ensures, c.if-not-branch.true) at is.0 in
    let steps = is.1 in
    lacks_comes space ⊥ _ _ _ _ _ _ _ _ rest path _ _ _ _ 0 _ _ (omega (arith, steps, taken)) gone

pub returns-in_err-place-clause-is : goal.returns-in_err-place-clause-is
returns-in_err-place-clause-is g c =
    let p = err_from_is_err_and c.from_residual-in_err-place.result c.from_residual-in_err-place.ensures.1 in
    let taken = c.in_ok-tick.ensures.ok in
    let is = c.in_ok-is_there.ensures.is c.args.mapper.now.nodes.now in
    let there = rw (c.from-start.ensures, c.if-not-branch.false) at is.0 in
    let steps = is.1 in
    let limit = c.in_ok-is_there.ensures.meter.limit ∙ c.in_ok-tick.ensures.limit in
    let label = c.in_err-place.ensures.is c.args.mapper.now.nodes.now in
    rw (p.1, p.2)
    (λ space rest path leads. label_stops space ⊥ _ _ _ _ _ _ _ _ rest _ path _ _ _ _ _ _ leads _ _ _ _ limit
    (omega (arith, steps, taken)) there label)

pub returns-clause-is : goal.returns-clause-is
returns-clause-is g c = λ space rest path.
    let taken = c.in_ok-tick.ensures.ok in
    let is = c.in_ok-is_there.ensures.is c.args.mapper.now.nodes.now in
    let there = rw (c.from-start.ensures, c.if-not-branch.false) at is.0 in
    let steps = is.1 in
    let start = c.in_ok-place.ensures.is c.args.mapper.now.nodes.now in
    let more = start.1 in
    rw c.byte_order.ensures
    (into_leads space ⊥ _ _ _ _ _ _ _ _ rest path _ _ _ _ 0 _ _ _ (omega (arith, steps, taken, more)) there start.0)
