use Rattle.std.proofs.Common.{◌*◌, true, sym, ap, ◌∙◌}
use Rattle.bit_space.specs.Bits.{bits_of}
use Rattle.pickle_meaning.specs.declared.faults.MapFaultKind.TheVariants.{NoBits}
use Rattle.fault_location.specs.Ways.{fault_of}
use Rattle.fault_location.proofs.ArrayElements.{due_on, same_fault, enters_element, enters_empty}
use Rattle.fault_location.specs.Frames.{frames_after, frames_of}
use Rattle.fault_location.proofs.checker.Checker.enter_elements.Goals as goal

pub returns-then-is_fault-clause-is : goal.returns-then-is_fault-clause-is
returns-then-is_fault-clause-is g c =
    λ bytes e.
    let before = c.in-Some.ensures.is bytes e in
    let len = ap (λ n. 8 * n) (c.len.ensures ∙ c.in-Some.ensures.frame.left.len) in
    let due =
    due_on (g.S.Space.view c.args.space.now) (g.met.S.Space.whole c.args.space.now) bytes e c.args.elements.extent _
    c.args.elements.start c.args.target.place c.in-Some.behind true len
    (sym c.is_due-due.ensures ∙ c.if-not-due.false) in
    let there = rw c.element_at-element.ensures at (c.is_fault.ensures c.if-is_fault.true) in
    let empty = rw (c.in-Some.ensures.frame.lent.nodes, c.element_at-element.ensures)
    at (c.enter_empty.ensures.is bytes (c.in-Some.ensures.frame.left.bytes ∙ e)) in
    enters_empty (bits_of bytes) c.args.self.now.nodes.now c.args.elements.element c.args.elements.order
    c.args.elements.start c.args.elements.extent (frames_of c.args.self.now)
    (frames_after c.args.self.now c.store_elements.new.self) c.args.target.place c.in-Some.behind
    (fault_of c.args.target.fault) before due (sym (rw c.stop_of.ensures at c.ends.ensures) ∙ c.if-ends.false)
    (frames_after c.args.self.now c.enter_empty.new.self)
    (same_fault NoBits c.in-Some.behind c.args.target.fault there) c.enter_empty.result empty

pub returns-clause-is : goal.returns-clause-is
returns-clause-is g c =
    λ bytes e.
    let before = c.in-Some.ensures.is bytes e in
    let len = ap (λ n. 8 * n) (c.len.ensures ∙ c.in-Some.ensures.frame.left.len) in
    let due =
    due_on (g.S.Space.view c.args.space.now) (g.met.S.Space.whole c.args.space.now) bytes e c.args.elements.extent _
    c.args.elements.start c.args.target.place c.in-Some.behind true len
    (sym c.is_due-due.ensures ∙ c.if-not-due.false) in
    enters_element (bits_of bytes) c.args.self.now.nodes.now c.args.elements.element c.args.elements.order
    c.args.elements.start c.args.elements.extent (frames_of c.args.self.now)
    (frames_after c.args.self.now c.store_elements.new.self) c.args.target.place c.in-Some.behind
    (fault_of c.args.target.fault) before due (sym (rw c.stop_of.ensures at c.ends.ensures) ∙ c.if-ends.false)
    c.bare_part.result (rw c.element_at-element.ensures at c.bare_part.ensures)
