use Rattle.std.proofs.Common.{◌≡◌, ◌+◌, ◌≤◌, Some, length, option_map, ap, arith}
use Rattle.bit_space.specs.Bits.{bits_of}
use Rattle.bit_space.proofs.Digits.{length-bits_of}
use Rattle.pickle_types.specs.Table.{type_of}
use Rattle.pickle_meaning.specs.Means.{number_type}
use Rattle.value_store.specs.Slots.{level_count}
use Rattle.fault_parts.specs.Arises.{in_number}
use Rattle.fault_location.proofs.Nodes.{integral_node}
use Rattle.fault_location.proofs.checker.Checker.is_in_digits.Goals as goal

pub returns-in-Ok-clause-is : goal.returns-in-Ok-clause-is
returns-in-Ok-clause-is g c =
    λ yes bytes e.
    let n = integral_node c.args.self.now.nodes.now c.args.self.now.table c.args.inner.node c.requires.part.inside
    (level_count c.args.self.now.store.now) c.requires.part.deep c.index-nodes-inner.result _ _ _ c.in-Integral.is in
    let whole = g.met.S.Space.whole c.args.space.now bytes e in
    let here : c.args.inner.start ≤ length (bits_of bytes) =
    rw length-bits_of (omega (arith, whole, c.if-from-inner.false, c.from.ensures, c.len.ensures)) in
    let ends : c.args.inner.start + c.in-Integral.number.width ≤ length (bits_of bytes) =
    rw length-bits_of (omega (arith, whole, c.in-Ok.ensures.inside)) in
    let kind : number_type (type_of c.args.self.now.nodes.now c.args.inner.node) ≡ Some c.in-Integral.number =
    ap number_type n.type_is in
    let digits = c.in-Ok.ensures.ok.exact (bits_of bytes) (ap (option_map bits_of) e) in
    let arises = rw digits at (c.number_arises.ensures.is yes) in
    in_number here kind ends arises
