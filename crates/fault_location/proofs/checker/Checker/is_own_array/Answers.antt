use Rattle.std.proofs.Common.{◌≤◌, length, arith}
use Rattle.bit_space.specs.Bits.{bits_of}
use Rattle.bit_space.proofs.Digits.{length-bits_of}
use Rattle.pickle_meaning.specs.declared.faults.MapFaultKind.TheVariants.{Bounds}
use Rattle.fault_parts.specs.Arises.{bound_of_array, in_array, past_size}
use Rattle.fault_location.proofs.ArrayElements.{same_fault}
use Rattle.fault_location.proofs.checker.Checker.is_own_array.Goals as goal

pub returns-then-is_fault-clause-is : goal.returns-then-is_fault-clause-is
returns-then-is_fault-clause-is g c =
    λ yes bytes e.
    let whole = g.met.S.Space.whole c.args.space.now bytes e in
    let inside : c.args.array.start ≤ length (bits_of bytes) =
    rw length-bits_of (omega (arith, whole, c.if-from-array.false, c.from.ensures, c.len.ensures)) in
    let opened = c.open_level.ensures.levels c.args.self.now.nodes.now in
    let grown = rw (c.elements_of.ensures, opened) at (c.outgrows.ensures.is yes bytes e) in
    rw (same_fault Bounds c.args.array.start c.args.fault (c.is_fault.ensures c.if-is_fault.true))
    (in_array inside (c.in-Ok.ensures.is c.args.self.now.nodes.now).0
    (past_size grown.elements.holds grown.over grown.unmet))

pub returns-in-Err-clause-is : goal.returns-in-Err-clause-is
returns-in-Err-clause-is g c =
    λ yes bytes e.
    let whole = g.met.S.Space.whole c.args.space.now bytes e in
    let inside : c.args.array.start ≤ length (bits_of bytes) =
    rw length-bits_of (omega (arith, whole, c.if-from-array.false, c.from.ensures, c.len.ensures)) in
    let bound = rw (c.is_fault-in-Err.ensures yes) at (c.in-Err.ensures.is c.args.self.now.nodes.now) in
    bound_of_array inside bound.0
