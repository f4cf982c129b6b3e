use Rattle.fault_parts.specs.Arises.{in_field}
use Rattle.fault_location.proofs.Steps.{condition_enters, label_enters}
use Rattle.fault_location.specs.Frames.{frames_of}
use Rattle.fault_location.proofs.checker.Checker.enter_field.Goals as goal

pub returns-in-Err-clause-is : goal.returns-in-Err-clause-is
returns-in-Err-clause-is g c =
    condition_enters c.args.self.now.nodes.now c.args.whole.pinned c.args.whole.start c.args.whole.order
    c.args.field.now (frames_of c.args.self.now) c.args.behind c.args.fault
    c.in-Err.stop c.there_if.result (c.in-Err.ensures.is c.args.self.now.nodes.now) c.there_if.ensures

pub returns-in-Ok-clause-is : goal.returns-in-Ok-clause-is
returns-in-Ok-clause-is g c =
    let there = rw c.in-Ok-true.field-0-test at (c.in-Ok-true.ensures.is c.args.self.now.nodes.now) in
    λ bits fields rest first i before path h. in_field before there (c.in-Ok.ensures.is c.args.self.now.nodes.now)
    (rw (c.field_part.ensures.inner_is, c.field_part.ensures.clause_is) at h)

pub returns-in-Err-find_start-clause-is : goal.returns-in-Err-find_start-clause-is
returns-in-Err-find_start-clause-is g c =
    let there = rw c.in-Ok-true.field-0-test at (c.in-Ok-true.ensures.is c.args.self.now.nodes.now) in
    label_enters c.args.self.now.nodes.now c.args.whole.pinned c.args.whole.start c.args.whole.order c.args.field.now
    (frames_of c.args.self.now) c.args.behind c.args.fault
    c.in-Err-find_start.stop c.there_if-in-Err-find_start.result there
    (c.in-Err-find_start.ensures.is c.args.self.now.nodes.now) c.there_if-in-Err-find_start.ensures
