use Rattle.std.proofs.Common.{refl, ◌∙◌, arith}
use Rattle.std.proofs.lemmas.Result.{err_from_is_err_and}
use Rattle.bit_space.specs.Bits.{bits_of}
use Rattle.fault_location.proofs.Steps.{absent_passes}
use Rattle.fault_location.proofs.Located.{fields_tried}
use Rattle.pickle_types.specs.Table.{type_of, optional_term}
use Rattle.pickle_meaning.specs.Means.{ordered}
use Rattle.fault_location.specs.Sites.{TriesAs}
use Rattle.fault_location.proofs.Searching.{fields_from, when_steps, start_steps, when_least, label_least, field_searched, none_of, on_known, stop_ends}
use Rattle.fault_location.specs.Frames.{frames_after, frames_of}
use Rattle.fault_location.proofs.checker.Checker.try_field.Goals as goal

pub returns-in-Ok-clause-is : goal.returns-in-Ok-clause-is
returns-in-Ok-clause-is g c =
    let there = rw c.in-Ok-false.field-0-test at (c.in-Ok-false.ensures.is c.args.self.now.nodes.now) in
    λ bytes known. absent_passes _ _ _ _ _ _ _ _ _ there (c.in-Ok.ensures.ok c.args.self.now.nodes.now)

pub returns-in-Ok-find_start-clause-is : goal.returns-in-Ok-find_start-clause-is
returns-in-Ok-find_start-clause-is g c =
    let there = rw c.in-Ok-true.field-0-test at (c.in-Ok-true.ensures.is c.args.self.now.nodes.now) in
    let tries = rw (c.field_part.ensures.inner_is, c.field_part.ensures.clause_is) at c.try_part.ensures.is in
    fields_tried (g.S.Space.view c.args.space.now) c.args.self.now.nodes.now c.args.whole.pinned c.args.whole.start
    c.args.whole.order c.args.field.now (frames_of c.args.self.now) c.args.behind
    (frames_after c.args.self.now c.try_part.new.self) c.in-Ok-find_start.start there
    (c.in-Ok-find_start.ensures.is c.args.self.now.nodes.now) c.try_part.result tries

pub returns-in-Ok-find_start-clause-spends : goal.returns-in-Ok-find_start-clause-spends
returns-in-Ok-find_start-clause-spends g c =
    let there = rw c.in-Ok-true.field-0-test at (c.in-Ok-true.ensures.is c.args.self.now.nodes.now) in
    let tries = rw (c.field_part.ensures.inner_is, c.field_part.ensures.clause_is) at c.try_part.ensures.is in
    λ bytes known rest.
    let tries = on_known (g.S.Space.view c.args.space.now) (λ found bits.
    TriesAs bits (type_of c.args.self.now.nodes.now c.args.field.now.node) (optional_term c.args.field.now.constraint)
    (ordered c.args.field.now.order c.args.whole.order)
    (frames_of c.args.self.now) (frames_after c.args.self.now c.try_part.new.self) c.in-Ok-find_start.start found)
    c.try_part.result tries bytes known in
    let searches =
    rw (c.field_part.ensures.inner_is, c.field_part.ensures.clause_is) at (c.try_part.ensures.spends bytes known) in
    field_searched (bits_of bytes) c.args.self.now.nodes.now c.args.whole.pinned c.args.whole.start c.args.whole.order
    c.args.field.now (frames_of c.args.self.now) c.args.behind rest c.in-Ok-find_start.start there
    (c.in-Ok-find_start.ensures.is c.args.self.now.nodes.now) (frames_after c.args.self.now c.try_part.new.self)
    c.find_start.new.meter.limit c.args.self.now.meter.now.limit c.args.self.now.meter.now.steps
    c.is_there.new.meter.steps c.find_start.new.meter.steps c.try_part.new.self.meter.now.steps
    c.try_part.result (λ d. d) (c.in-Ok-find_start.ensures.limit ∙ c.in-Ok-true.ensures.limit)
    (c.in-Ok-true.ensures.spends c.args.self.now.nodes.now)
    (c.in-Ok-find_start.ensures.spends c.args.self.now.nodes.now) tries searches

pub returns-in_err-fault_in-in-Err-clause-spends : goal.returns-in_err-fault_in-in-Err-clause-spends
returns-in_err-fault_in-in-Err-clause-spends g c =
    let p = err_from_is_err_and c.from_residual.result c.from_residual.ensures.1 in
    λ bytes known rest.
    let least = when_least (bits_of bytes) c.args.self.now.nodes.now c.args.whole.pinned c.args.whole.start
    c.args.whole.order c.args.field.now (frames_of c.args.self.now) c.args.behind rest in
    rw (p.1, p.2)
    (stop_ends c.args.self.now.meter.now.limit c.args.self.now.meter.now.limit c.args.self.now.meter.now.steps
    c.args.self.now.meter.now.steps c.is_there.new.meter.steps
    (when_steps (bits_of bytes) c.args.self.now.nodes.now c.args.whole.pinned c.args.whole.start c.args.whole.order
    c.args.field.now (frames_of c.args.self.now) c.args.behind rest)
    (fields_from (bits_of bytes) c.args.self.now.nodes.now c.args.whole.pinned c.args.whole.start c.args.whole.order
    c.args.field.now (frames_of c.args.self.now) c.args.behind rest) c.in-Err.stop _ c.in_err-fault_in-in-Err.ensures
    none_of refl (omega (arith, least)) (c.in-Err.ensures.spends c.args.self.now.nodes.now))

pub returns-in_err-fault_in-in-Err-find_start-clause-spends :
    goal.returns-in_err-fault_in-in-Err-find_start-clause-spends
returns-in_err-fault_in-in-Err-find_start-clause-spends g c =
    let p = err_from_is_err_and c.from_residual-in_err-fault_in-in-Err-find_start.result
    c.from_residual-in_err-fault_in-in-Err-find_start.ensures.1 in
    let there = rw c.in-Ok-true.field-0-test at (c.in-Ok-true.ensures.is c.args.self.now.nodes.now) in
    let took = c.in-Ok-true.ensures.spends c.args.self.now.nodes.now in
    λ bytes known rest.
    let least = label_least (bits_of bytes) c.args.self.now.nodes.now c.args.whole.pinned c.args.whole.start
    c.args.whole.order c.args.field.now (frames_of c.args.self.now) c.args.behind rest there in
    rw (p.1, p.2)
    (stop_ends c.is_there.new.meter.limit c.args.self.now.meter.now.limit c.is_there.new.meter.steps
    c.args.self.now.meter.now.steps c.find_start.new.meter.steps
    (start_steps (bits_of bytes) c.args.self.now.nodes.now c.args.whole.pinned c.args.whole.start c.args.whole.order
    c.args.field.now (frames_of c.args.self.now) c.args.behind rest)
    (fields_from (bits_of bytes) c.args.self.now.nodes.now c.args.whole.pinned c.args.whole.start c.args.whole.order
    c.args.field.now (frames_of c.args.self.now) c.args.behind rest)
    c.in-Err-find_start.stop _ c.in_err-fault_in-in-Err-find_start.ensures none_of c.in-Ok-true.ensures.limit
    (omega (arith, took, least)) (c.in-Err-find_start.ensures.spends c.args.self.now.nodes.now))
