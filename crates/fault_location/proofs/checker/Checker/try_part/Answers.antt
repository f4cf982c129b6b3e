use Rattle.std.proofs.Common.{arith}
use Rattle.std.proofs.lemmas.Result.{err_from_is_err_and}
use Rattle.bit_space.specs.Bits.{bits_of}
use Rattle.pickle_types.specs.Table.{type_of}
use Rattle.pickle_meaning.specs.Clauses.{clause_steps}
use Rattle.fault_location.specs.Searched.{part_steps}
use Rattle.fault_location.specs.Ways.{constraint_of}
use Rattle.fault_location.proofs.Searching.{none_of, stop_ends, value_least}
use Rattle.fault_location.specs.Frames.{frames_after, frames_of}
use Rattle.fault_location.proofs.checker.Checker.try_part.Goals as goal

pub returns-in-Ok-check_part-clause-spends : goal.returns-in-Ok-check_part-clause-spends
returns-in-Ok-check_part-clause-spends g c =
    λ bytes known.
    let took = c.in-Ok.ensures.spends bytes known in
    let checked = c.in-Ok-check_part.ensures.spends c.args.self.now.nodes.now in
    let least =
    value_least (bits_of bytes) (type_of c.args.self.now.nodes.now c.args.part.inner.node) (constraint_of c.args.part)
    c.args.part.inner.order (frames_of c.args.self.now) c.args.part.inner.start (c.in-Ok.ensures.is bytes known) in
    omega (arith, took, checked, least)

pub returns-in_ok-fault_in-in-Err-check_part-clause-spends : goal.returns-in_ok-fault_in-in-Err-check_part-clause-spends
returns-in_ok-fault_in-in-Err-check_part-clause-spends g c =
    λ bytes known.
    let took = c.in-Ok.ensures.spends bytes known in
    let checked =
    rw c.in_ok-fault_in-in-Err-check_part.ensures at (c.in-Err-check_part.ensures.spends c.args.self.now.nodes.now) in
    let least =
    value_least (bits_of bytes) (type_of c.args.self.now.nodes.now c.args.part.inner.node) (constraint_of c.args.part)
    c.args.part.inner.order (frames_of c.args.self.now) c.args.part.inner.start (c.in-Ok.ensures.is bytes known) in
    omega (arith, took, checked, least)

pub returns-in_err-fault_in-in-Err-check_part-clause-spends :
    goal.returns-in_err-fault_in-in-Err-check_part-clause-spends
returns-in_err-fault_in-in-Err-check_part-clause-spends g c =
    let p = err_from_is_err_and c.from_residual.result c.from_residual.ensures.1 in
    λ bytes known.
    let took = c.in-Ok.ensures.spends bytes known in
    let least =
    value_least (bits_of bytes) (type_of c.args.self.now.nodes.now c.args.part.inner.node) (constraint_of c.args.part)
    c.args.part.inner.order (frames_of c.args.self.now) c.args.part.inner.start (c.in-Ok.ensures.is bytes known) in
    rw (p.1, p.2)
    (stop_ends c.map_type.new.self.meter.now.limit c.args.self.now.meter.now.limit c.map_type.new.self.meter.now.steps
    c.args.self.now.meter.now.steps c.check_part.new.meter.steps
    (clause_steps (constraint_of c.args.part) (frames_after c.args.self.now c.map_type.new.self))
    (part_steps (bits_of bytes) (type_of c.args.self.now.nodes.now c.args.part.inner.node) (constraint_of c.args.part)
    c.args.part.inner.order (frames_of c.args.self.now) c.args.part.inner.start)
    c.in-Err-check_part.stop _ c.in_err-fault_in-in-Err-check_part.ensures
    none_of c.in-Ok.ensures.frame.left.limit (omega (arith, took, least))
    (c.in-Err-check_part.ensures.spends c.args.self.now.nodes.now))
