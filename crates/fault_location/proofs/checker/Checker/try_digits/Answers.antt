use Rattle.std.proofs.Common.{arith}
use Rattle.std.proofs.lemmas.Result.{err_from_is_err_and}
use Rattle.pickle_types.specs.Table.{type_of, optional_term}
use Rattle.pickle_meaning.specs.Clauses.{clause_steps}
use Rattle.fault_location.specs.Searched.{number_steps}
use Rattle.fault_location.proofs.Searching.{number_least, stop_ends}
use Rattle.fault_location.specs.Frames.{frames_after, frames_of}
use Rattle.fault_location.proofs.checker.Checker.try_digits.Goals as goal

pub returns-in-Ok-check_constraint-clause-spends : goal.returns-in-Ok-check_constraint-clause-spends
returns-in-Ok-check_constraint-clause-spends c =
    let least =
    number_least (type_of c.args.self.now.nodes.now c.args.field.now.node) (optional_term c.args.field.now.constraint)
    c.args.digits (frames_of c.args.self.now) c.args.start c.in-Ok.ensures.is in
    let checked = c.in-Ok-check_constraint.ensures.spends c.args.self.now.nodes.now in
    omega (arith, c.in-Ok.ensures.spends, checked, least)

pub returns-in_ok-fault_in-in-Err-check_constraint-clause-spends :
    goal.returns-in_ok-fault_in-in-Err-check_constraint-clause-spends
returns-in_ok-fault_in-in-Err-check_constraint-clause-spends c =
    let least =
    number_least (type_of c.args.self.now.nodes.now c.args.field.now.node) (optional_term c.args.field.now.constraint)
    c.args.digits (frames_of c.args.self.now) c.args.start c.in-Ok.ensures.is in
    let checked = rw c.in_ok-fault_in-in-Err-check_constraint.ensures
    at (c.in-Err-check_constraint.ensures.spends c.args.self.now.nodes.now) in
    omega (arith, c.in-Ok.ensures.spends, checked, least)

pub returns-in_err-fault_in-in-Err-check_constraint-clause-spends :
    goal.returns-in_err-fault_in-in-Err-check_constraint-clause-spends
returns-in_err-fault_in-in-Err-check_constraint-clause-spends c =
    let p = err_from_is_err_and c.from_residual.result c.from_residual.ensures.1 in
    let least =
    number_least (type_of c.args.self.now.nodes.now c.args.field.now.node) (optional_term c.args.field.now.constraint)
    c.args.digits (frames_of c.args.self.now) c.args.start c.in-Ok.ensures.is in
    rw (p.1, p.2)
    (stop_ends c.store_number.new.self.meter.now.limit c.args.self.now.meter.now.limit
    c.store_number.new.self.meter.now.steps c.args.self.now.meter.now.steps c.check_constraint.new.meter.steps
    (clause_steps (optional_term c.args.field.now.constraint) (frames_after c.args.self.now c.store_number.new.self))
    (number_steps (type_of c.args.self.now.nodes.now c.args.field.now.node) (optional_term c.args.field.now.constraint)
    c.args.digits (frames_of c.args.self.now) c.args.start)
    c.in-Err-check_constraint.stop _ c.in_err-fault_in-in-Err-check_constraint.ensures
    (λ d. d) c.in-Ok.ensures.frame.limit (omega (arith, c.in-Ok.ensures.spends, least))
    (c.in-Err-check_constraint.ensures.spends c.args.self.now.nodes.now))
