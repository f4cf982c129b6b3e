use Rattle.std.proofs.Common.{rules, [], refl, arith, drop, ◌+◌}
use Rattle.std.proofs.lemmas.List.{drop_more, drop_all}
use Rattle.std.proofs.lemmas.Result.{err_from_is_err_and}
use Rattle.pickle_types.specs.Table.{type_of, open_parts}
use Rattle.fault_parts.specs.Arises.{no_digits_before}
use Rattle.fault_location.proofs.IntegralFields.{digits_more}
use Rattle.fault_location.proofs.Located.{digits_found, digits_passed, digits_beside, digits_inside}
use Rattle.fault_location.specs.Searched.{digits_search}
use Rattle.fault_location.proofs.Searching.{cut_steps, digits_after, field_number_least, number_inside, search_ends}
use Rattle.fault_location.specs.Frames.{frames_after, frames_of}
use Rattle.fault_location.proofs.checker.Checker.find_digits.Goals as goal

pub loop-place-init : goal.loop-place-init
loop-place-init c = record {
  frame = search rules;
  depth = refl;
  few = c.requires.width;
  before = no_digits_before;
  spent = omega arith;
}

pub returns-in-Beside-clause-is : goal.returns-in-Beside-clause-is
returns-in-Beside-clause-is c =
    let i = c.loop-place.invariant in
    let next = drop_more c.args.fields.now c.loop-place.place c.index-fields-place.result (omega arith) in
    let next = rw (← c.index-fields-place.is) at next in
    let before = rw next at i.before in
    let refused = rw (i.frame.lent.nodes, c.in-Beside.is) at c.in_ok-try_digits.ensures.is in
    digits_found [] before
    (digits_beside c.args.self.now.nodes.now c.args.digits c.args.start c.loop-place.left c.first_digits-cut.result
    c.width_at-width.result c.index-fields-place.result
    (open_parts (type_of c.args.self.now.nodes.now) (drop (c.loop-place.place + 1) c.args.fields.now))
    (frames_after c.args.self.now c.loop-place.self) c.width_at-width.ensures.is c.first_digits-cut.ensures.is refused)

pub returns-in-Inside-clause-is : goal.returns-in-Inside-clause-is
returns-in-Inside-clause-is c =
    let i = c.loop-place.invariant in
    let next = drop_more c.args.fields.now c.loop-place.place c.index-fields-place.result (omega arith) in
    let next = rw (← c.index-fields-place.is) at next in
    let before = rw next at i.before in
    let faulty = rw (i.frame.lent.nodes, c.in-Inside.is) at c.in_ok-try_digits.ensures.is in
    digits_found _ before
    (digits_inside c.args.self.now.nodes.now c.args.digits c.args.start c.loop-place.left c.first_digits-cut.result
    c.width_at-width.result c.index-fields-place.result
    (open_parts (type_of c.args.self.now.nodes.now) (drop (c.loop-place.place + 1) c.args.fields.now))
    (frames_after c.args.self.now c.loop-place.self) c.width_at-width.ensures.is c.first_digits-cut.ensures.is
    (frames_after c.args.self.now c.try_digits.new.self) faulty.0 faulty.1)

pub loop-place-preserved : goal.loop-place-preserved
loop-place-preserved c =
    let i = c.loop-place.invariant in
    let next = drop_more c.args.fields.now c.loop-place.place c.index-fields-place.result (omega arith) in
    let next = rw (← c.index-fields-place.is) at next in
    let passed = rw (i.frame.lent.nodes, c.in-Passed.is) at c.in_ok-try_digits.ensures.is in
    record {
      frame = search rules;
      depth = search rules;
      few = search rules;
      before = digits_more c.args.self.now.nodes.now c.args.fields.now c.args.digits c.args.start c.args.width
          c.loop-place.place c.loop-place.left c.first_digits-cut.result c.width_at-width.result
          c.saturating_sub-left.result
          (open_parts (type_of c.args.self.now.nodes.now) c.args.fields.now) (frames_of c.args.self.now)
          (frames_after c.args.self.now c.loop-place.self) (frames_after c.args.self.now c.try_digits.new.self)
          c.index-fields-place.result next c.width_at-width.ensures.is c.first_digits-cut.ensures.is
          c.saturating_sub-left.ensures i.before passed;
      spent =
          let spent = rw next at i.spent in
          let took = rw i.frame.lent.nodes at c.in_ok-try_digits.ensures.spends in
          let a = digits_after c.args.self.now.nodes.now c.args.digits c.args.start c.loop-place.left
          c.first_digits-cut.result c.width_at-width.result c.index-fields-place.result
          (open_parts (type_of c.args.self.now.nodes.now) (drop (c.loop-place.place + 1) c.args.fields.now))
          (frames_after c.args.self.now c.loop-place.self) c.width_at-width.ensures.is c.first_digits-cut.ensures.is
          (frames_after c.args.self.now c.try_digits.new.self) passed in
          rw (c.saturating_sub-left.ensures, c.width_at-width.ensures.is) (omega (arith, spent, a, took));
    }

pub returns-clause-is : goal.returns-clause-is
returns-clause-is c =
    let i = c.loop-place.invariant in
    digits_passed (rw (drop_all c.loop-place.place c.args.fields.now (omega arith)) at i.before)

pub returns-in-Beside-clause-spends : goal.returns-in-Beside-clause-spends
returns-in-Beside-clause-spends c =
    let i = c.loop-place.invariant in
    let took = rw i.frame.lent.nodes at c.in_ok-try_digits.ensures.spends in
    let next = drop_more c.args.fields.now c.loop-place.place c.index-fields-place.result (omega arith) in
    let next = rw (← c.index-fields-place.is) at next in
    let spent = rw next at i.spent in
    let a = field_number_least c.args.self.now.nodes.now c.args.digits c.args.start c.loop-place.left
    c.first_digits-cut.result c.width_at-width.result c.index-fields-place.result
    (open_parts (type_of c.args.self.now.nodes.now) (drop (c.loop-place.place + 1) c.args.fields.now))
    (frames_after c.args.self.now c.loop-place.self) c.width_at-width.ensures.is c.first_digits-cut.ensures.is in
    omega (arith, spent, a, took)

pub returns-in-Inside-clause-spends : goal.returns-in-Inside-clause-spends
returns-in-Inside-clause-spends c =
    let i = c.loop-place.invariant in
    let took = rw i.frame.lent.nodes at c.in_ok-try_digits.ensures.spends in
    let next = drop_more c.args.fields.now c.loop-place.place c.index-fields-place.result (omega arith) in
    let next = rw (← c.index-fields-place.is) at next in
    let spent = rw next at i.spent in
    let faulty = rw (i.frame.lent.nodes, c.in-Inside.is) at c.in_ok-try_digits.ensures.is in
    let a = number_inside c.args.self.now.nodes.now c.args.digits c.args.start c.loop-place.left
    c.first_digits-cut.result c.width_at-width.result c.index-fields-place.result
    (open_parts (type_of c.args.self.now.nodes.now) (drop (c.loop-place.place + 1) c.args.fields.now))
    (frames_after c.args.self.now c.loop-place.self) c.width_at-width.ensures.is c.first_digits-cut.ensures.is
    (frames_after c.args.self.now c.try_digits.new.self) faulty.0 faulty.1 in
    omega (arith, spent, a, took)

pub returns-clause-spends : goal.returns-clause-spends
returns-clause-spends c =
    let spent = rw (drop_all c.loop-place.place c.args.fields.now (omega arith)) at c.loop-place.invariant.spent in
    omega (arith, spent)

pub returns-in_err-try_digits-clause-spends : goal.returns-in_err-try_digits-clause-spends
returns-in_err-try_digits-clause-spends c =
    let p = err_from_is_err_and c.from_residual.result c.from_residual.ensures.1 in
    let i = c.loop-place.invariant in
    let next = drop_more c.args.fields.now c.loop-place.place c.index-fields-place.result (omega arith) in
    let next = rw (← c.index-fields-place.is) at next in
    let spent = rw next at i.spent in
    let a = field_number_least c.args.self.now.nodes.now c.args.digits c.args.start c.loop-place.left
    c.first_digits-cut.result c.width_at-width.result c.index-fields-place.result
    (open_parts (type_of c.args.self.now.nodes.now) (drop (c.loop-place.place + 1) c.args.fields.now))
    (frames_after c.args.self.now c.loop-place.self) c.width_at-width.ensures.is c.first_digits-cut.ensures.is in
    rw (p.1, p.2) (search_ends {D = ⊥} {D' = ⊥} c.loop-place.self.meter.now.limit c.args.self.now.meter.now.limit
    c.loop-place.self.meter.now.steps c.args.self.now.meter.now.steps (cut_steps c.args.self.now.nodes.now c.args.digits
    c.args.start c.loop-place.left c.first_digits-cut.result c.width_at-width.result c.index-fields-place.result
    (open_parts (type_of c.args.self.now.nodes.now) (drop (c.loop-place.place + 1) c.args.fields.now))
    (frames_after c.args.self.now c.loop-place.self) c.width_at-width.ensures.is c.first_digits-cut.ensures.is)
    (digits_search (open_parts (type_of c.args.self.now.nodes.now) c.args.fields.now) c.args.digits c.args.width
    (frames_of c.args.self.now) c.args.start)
    _ (λ d. d) i.frame.limit (omega (arith, spent, a)) (rw i.frame.lent.nodes at c.in_err-try_digits.ensures.spends))
