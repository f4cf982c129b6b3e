use Rattle.std.proofs.Common.{◌+◌, ◌<◌, length, sym, ◌∙◌, arith}
use Rattle.std.proofs.lemmas.Bool.{ltb-true}
use Rattle.bit_space.specs.Bits.{bits_of}
use Rattle.bit_space.proofs.Digits.{length-bits_of}
use Rattle.pickle_types.specs.Table.{type_of}
use Rattle.pickle_map.proofs.Shapes.{opened_as}
use Rattle.value_store.specs.Slots.{level_count}
use Rattle.fault_location.proofs.Nodes.{integral_node, union_node, array_node}
use Rattle.fault_location.proofs.Own.{own_integer, own_offset, own_string, own_union, own_integral, own_past}
use Rattle.fault_location.proofs.checker.Checker.is_own_fault.Goals as goal

pub returns-then-bits-inner-clause-is : goal.returns-then-bits-inner-clause-is
returns-then-bits-inner-clause-is g c =
    λ yes bytes e.
    let whole = g.met.S.Space.whole c.args.space.now bytes e in
    let past : length (bits_of bytes) < c.args.inner.start =
    rw length-bits_of (omega (arith, whole, c.if-bits-inner.true, c.from-bits.ensures, c.len.ensures)) in
    own_past (type_of c.args.self.now.nodes.now c.args.inner.node) past (c.requires.has bytes e)

pub is_own_array-requires-clause-element : goal.is_own_array-requires-clause-element
is_own_array-requires-clause-element g c =
    let n = array_node c.args.self.now.nodes.now c.args.self.now.table c.args.inner.node c.requires.part.inside
    (level_count c.args.self.now.store.now) c.requires.part.deep c.index-nodes-inner.result _ _ c.in-Array.is in
    rw c.array_at.ensures.element_is (record { inside = n.inside; deep = n.deep })

pub is_own_array-requires-clause-sound : goal.is_own_array-requires-clause-sound
is_own_array-requires-clause-sound g c =
    let n = array_node c.args.self.now.nodes.now c.args.self.now.table c.args.inner.node c.requires.part.inside
    (level_count c.args.self.now.store.now) c.requires.part.deep c.index-nodes-inner.result _ _ c.in-Array.is in
    rw c.array_at.ensures.bound_is n.sound

pub returns-in-Integer-clause-is : goal.returns-in-Integer-clause-is
returns-in-Integer-clause-is g c =
    λ yes bytes e.
    let opened = opened_as c.args.self.now.nodes.now c.args.self.now.table c.args.inner.node c.requires.part.inside
    c.index-nodes-inner.result _ c.in-Integer.is in
    let has = rw opened at (c.requires.has bytes e) in
    rw opened (own_integer c.in-Integer.field-0 has)

pub returns-in-Offset-clause-is : goal.returns-in-Offset-clause-is
returns-in-Offset-clause-is g c =
    λ yes bytes e.
    let opened = opened_as c.args.self.now.nodes.now c.args.self.now.table c.args.inner.node c.requires.part.inside
    c.index-nodes-inner.result _ c.in-Offset.is in
    let has = rw opened at (c.requires.has bytes e) in
    rw opened (own_offset c.in-Offset.field-0 c.in-Offset.field-1 has)

pub returns-in-String-clause-is : goal.returns-in-String-clause-is
returns-in-String-clause-is g c =
    λ yes bytes e.
    let opened = opened_as c.args.self.now.nodes.now c.args.self.now.table c.args.inner.node c.requires.part.inside
    c.index-nodes-inner.result _ c.in-String.is in
    let has = rw opened at (c.requires.has bytes e) in
    rw opened (own_string has)

pub returns-in-Union-clause-is : goal.returns-in-Union-clause-is
returns-in-Union-clause-is g c =
    λ yes bytes e.
    let n = union_node c.args.self.now.nodes.now c.args.self.now.table c.args.inner.node c.requires.part.inside
    (level_count c.args.self.now.store.now) c.requires.part.deep c.index-nodes-inner.result _ _ c.in-Union.is in
    let has = rw n.type_is at (c.requires.has bytes e) in
    rw n.type_is (own_union _ _ (sym (rw c.stop_of.ensures at c.misses.ensures) ∙ yes) has)

pub returns-in-Integral-clause-is : goal.returns-in-Integral-clause-is
returns-in-Integral-clause-is g c =
    λ yes bytes e.
    let n = integral_node c.args.self.now.nodes.now c.args.self.now.table c.args.inner.node c.requires.part.inside
    (level_count c.args.self.now.store.now) c.requires.part.deep c.index-nodes-inner.result _ _ _ c.in-Integral.is in
    let has = rw n.type_is at (c.requires.has bytes e) in
    let whole = g.met.S.Space.whole c.args.space.now bytes e in
    let less : c.from-bits.result < c.args.inner.start + c.from.result = ltb-true _ _ yes in
    let past : length (bits_of bytes) < c.args.inner.start + c.in-Integral.number.width =
    rw length-bits_of (omega (arith, whole, less, c.from-bits.ensures, c.from.ensures, c.len.ensures)) in
    rw n.type_is (own_integral _ _ _ past has)

pub returns-in-Array-clause-is : goal.returns-in-Array-clause-is
returns-in-Array-clause-is g c =
    λ yes bytes e.
    let n = array_node c.args.self.now.nodes.now c.args.self.now.table c.args.inner.node c.requires.part.inside
    (level_count c.args.self.now.store.now) c.requires.part.deep c.index-nodes-inner.result _ _ c.in-Array.is in
    let has = rw (
      c.array_at.ensures.element_is,
      c.array_at.ensures.bound_is,
      c.array_at.ensures.order_is,
      c.array_at.ensures.start_is,
    ) at (c.is_own_array.ensures.is yes bytes e) in
    rw n.type_is has
