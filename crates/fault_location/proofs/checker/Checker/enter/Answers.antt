use Rattle.std.proofs.Common.{◌≤◌, length, refl, arith}
use Rattle.bit_space.specs.Bits.{bits_of}
use Rattle.bit_space.proofs.Digits.{length-bits_of}
use Rattle.pickle_types.specs.Table.{type_of, open_fields, open_parts}
use Rattle.value_store.specs.Names.{title_at}
use Rattle.value_store.specs.Slots.{level_count}
use Rattle.fault_location.specs.Ways.{fault_of}
use Rattle.fault_location.proofs.Nodes.{struct_node, union_node, array_node}
use Rattle.fault_location.proofs.Steps.{enters_as, enters_struct, enters_union}
use Rattle.fault_location.specs.Frames.{frames_after, frames_of}
use Rattle.fault_location.proofs.checker.Checker.enter.Goals as goal

pub open_level-requires : goal.open_level-requires
open_level-requires g c =
    let n = struct_node c.args.self.now.nodes.now c.args.self.now.table c.args.inner.node c.requires.part.inside
    (level_count c.args.self.now.store.now) c.requires.part.deep c.index-nodes-inner.result _ _ _ c.in-Struct.is in
    n.few

pub enter_fields-requires : goal.enter_fields-requires
enter_fields-requires g c =
    let n = struct_node c.args.self.now.nodes.now c.args.self.now.table c.args.inner.node c.requires.part.inside
    (level_count c.args.self.now.store.now) c.requires.part.deep c.index-nodes-inner.result _ _ _ c.in-Struct.is in
    record { fields = rw (c.deref.ensures.value, c.open_level.ensures.depth) n.fields_are }

pub open_level-requires-in-Union : goal.open_level-requires-in-Union
open_level-requires-in-Union g c =
    let n = union_node c.args.self.now.nodes.now c.args.self.now.table c.args.inner.node c.requires.part.inside
    (level_count c.args.self.now.store.now) c.requires.part.deep c.index-nodes-inner.result _ _ c.in-Union.is in
    n.few

pub enter_alternatives-requires-clause-alternatives : goal.enter_alternatives-requires-clause-alternatives
enter_alternatives-requires-clause-alternatives g c =
    let n = union_node c.args.self.now.nodes.now c.args.self.now.table c.args.inner.node c.requires.part.inside
    (level_count c.args.self.now.store.now) c.requires.part.deep c.index-nodes-inner.result _ _ c.in-Union.is in
    rw (c.deref-in-Union.ensures.value, c.open_level-in-Union.ensures.depth) n.alternatives_are

pub enter_alternatives-requires-clause-fresh : goal.enter_alternatives-requires-clause-fresh
enter_alternatives-requires-clause-fresh g c = rw (c.open_level-in-Union.ensures.levels c.args.self.now.nodes.now) refl

pub enter_array-requires-clause-element : goal.enter_array-requires-clause-element
enter_array-requires-clause-element g c =
    let n = array_node c.args.self.now.nodes.now c.args.self.now.table c.args.inner.node c.requires.part.inside
    (level_count c.args.self.now.store.now) c.requires.part.deep c.index-nodes-inner.result _ _ c.in-Array.is in
    rw c.array_at.ensures.element_is (record { inside = n.inside; deep = n.deep })

pub enter_array-requires-clause-sound : goal.enter_array-requires-clause-sound
enter_array-requires-clause-sound g c =
    let n = array_node c.args.self.now.nodes.now c.args.self.now.table c.args.inner.node c.requires.part.inside
    (level_count c.args.self.now.store.now) c.requires.part.deep c.index-nodes-inner.result _ _ c.in-Array.is in
    rw c.array_at.ensures.bound_is n.sound

pub returns-in-Struct-clause-is : goal.returns-in-Struct-clause-is
returns-in-Struct-clause-is g c =
    λ bytes e.
    let n = struct_node c.args.self.now.nodes.now c.args.self.now.table c.args.inner.node c.requires.part.inside
    (level_count c.args.self.now.store.now) c.requires.part.deep c.index-nodes-inner.result _ _ _ c.in-Struct.is in
    let whole = g.met.S.Space.whole c.args.space.now bytes e in
    let here : c.args.inner.start ≤ length (bits_of bytes) =
    rw length-bits_of (omega (arith, whole, c.if-from-inner.false, c.from.ensures, c.len.ensures)) in
    let opens = c.open_level.ensures.levels c.args.self.now.nodes.now in
    let entered = rw (c.struct_at-whole.ensures, opens, c.deref.ensures.value) at (c.enter_fields.ensures.is bytes e) in
    enters_as (bits_of bytes) c.args.self.now.nodes.now c.args.inner.order c.args.inner.start
    (frames_of c.args.self.now) (frames_after c.args.self.now c.enter_fields.new.self) c.args.target.place
    (fault_of c.args.target.fault) (type_of c.args.self.now.nodes.now c.args.inner.node) _ n.type_is
    c.enter_fields.result
    (enters_struct (bits_of bytes) c.args.self.now.nodes.now c.args.inner.order c.args.inner.start
    (frames_of c.args.self.now) (frames_after c.args.self.now c.enter_fields.new.self) c.args.target.place
    (fault_of c.args.target.fault) here
    (title_at c.args.self.now.nodes.now c.args.inner.node) c.in-Struct.pinned
    (open_fields (type_of c.args.self.now.nodes.now) c.in-Struct.fields.items) c.enter_fields.result entered)

pub returns-in-Union-clause-is : goal.returns-in-Union-clause-is
returns-in-Union-clause-is g c =
    λ bytes e.
    let n = union_node c.args.self.now.nodes.now c.args.self.now.table c.args.inner.node c.requires.part.inside
    (level_count c.args.self.now.store.now) c.requires.part.deep c.index-nodes-inner.result _ _ c.in-Union.is in
    let whole = g.met.S.Space.whole c.args.space.now bytes e in
    let here : c.args.inner.start ≤ length (bits_of bytes) =
    rw length-bits_of (omega (arith, whole, c.if-from-inner.false, c.from.ensures, c.len.ensures)) in
    let opens = c.open_level-in-Union.ensures.levels c.args.self.now.nodes.now in
    let entered =
    rw (c.union_at.ensures, opens, c.deref-in-Union.ensures.value) at (c.enter_alternatives.ensures.is bytes e) in
    enters_as (bits_of bytes) c.args.self.now.nodes.now c.args.inner.order c.args.inner.start
    (frames_of c.args.self.now) (frames_after c.args.self.now c.enter_alternatives.new.self) c.args.target.place
    (fault_of c.args.target.fault) (type_of c.args.self.now.nodes.now c.args.inner.node) _ n.type_is
    c.enter_alternatives.result
    (enters_union (bits_of bytes) c.args.self.now.nodes.now c.args.inner.order c.args.inner.start
    (frames_of c.args.self.now) (frames_after c.args.self.now c.enter_alternatives.new.self) c.args.target.place
    (fault_of c.args.target.fault) here
    (title_at c.args.self.now.nodes.now c.args.inner.node)
    (open_parts (type_of c.args.self.now.nodes.now) c.in-Union.alternatives.items) c.enter_alternatives.result entered)

pub returns-in-Array-clause-is : goal.returns-in-Array-clause-is
returns-in-Array-clause-is g c =
    λ bytes e.
    let n = array_node c.args.self.now.nodes.now c.args.self.now.table c.args.inner.node c.requires.part.inside
    (level_count c.args.self.now.store.now) c.requires.part.deep c.index-nodes-inner.result _ _ c.in-Array.is in
    enters_as (bits_of bytes) c.args.self.now.nodes.now c.args.inner.order c.args.inner.start
    (frames_of c.args.self.now) (frames_after c.args.self.now c.enter_array.new.self) c.args.target.place
    (fault_of c.args.target.fault) (type_of c.args.self.now.nodes.now c.args.inner.node) _ n.type_is
    c.enter_array.result
    (rw (
      c.array_at.ensures.element_is,
      c.array_at.ensures.bound_is,
      c.array_at.ensures.order_is,
      c.array_at.ensures.start_is,
    ) at (c.enter_array.ensures.is bytes e))
