use Rattle.std.proofs.Common.{◌≤◌, length, arith}
use Rattle.bit_space.specs.Bits.{bits_of}
use Rattle.bit_space.proofs.Digits.{length-bits_of}
use Rattle.pickle_types.specs.Table.{type_of, bound_of}
use Rattle.fault_location.specs.Ways.{fault_of}
use Rattle.fault_location.proofs.ArrayElements.{enters_array}
use Rattle.fault_location.specs.Frames.{frames_after, frames_of}
use Rattle.fault_location.proofs.checker.Checker.enter_array.Goals as goal

pub returns-clause-is : goal.returns-clause-is
returns-clause-is g c =
    λ bytes e.
    let whole = g.met.S.Space.whole c.args.space.now bytes e in
    let inside : c.args.array.start ≤ length (bits_of bytes) =
    rw length-bits_of (omega (arith, whole, c.if-from-array.false, c.from.ensures, c.len.ensures)) in
    let opened = c.open_level.ensures.levels c.args.self.now.nodes.now in
    let entered = rw (c.elements_of.ensures, opened) at (c.enter_elements.ensures.is bytes e) in
    enters_array (bits_of bytes) c.args.self.now.nodes.now (type_of c.args.self.now.nodes.now c.args.array.element)
    (bound_of c.args.array.bound.now) c.args.array.order c.args.array.start c.in-Ok.extent (frames_of c.args.self.now)
    (frames_after c.args.self.now c.enter_elements.new.self)
    c.args.target.place (fault_of c.args.target.fault) inside (c.in-Ok.ensures.is c.args.self.now.nodes.now).0
    c.enter_elements.result entered
