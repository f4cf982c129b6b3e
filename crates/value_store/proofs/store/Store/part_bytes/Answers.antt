use Rattle.std.proofs.Common.{◌≡◌, ◌≤◌, ◌+◌, ◌-◌, ◌*◌, length, arith, subst}
use Rattle.value_store.specs.Integers.{AreSideBySide}
use Rattle.value_store.specs.Slots.{family_links}
use Rattle.value_store.proofs.SideBySide.{array_links, links_early, part_within_row, part_row}
use Rattle.value_store.proofs.store.Store.part_bytes.Goals as goal

pub side_by_side-requires-clause-there : goal.side_by_side-requires-clause-there
side_by_side-requires-clause-there c = rw c.family-links.ensures
    (array_links c.args.self.now.slots c.args.node c.node_at-part.result c.node_at-part.ensures.read.sound
    c.node_at-part.ensures.is c.in-Array.is)

pub side_by_side-requires-clause-early : goal.side_by_side-requires-clause-early
side_by_side-requires-clause-early c = rw c.family-links.ensures
    (links_early c.args.self.now.slots c.args.array c.args.index c.args.node c.node_at-own.result c.node_at-part.result
    c.in-Records.stride c.in-Records.size c.node_at-own.ensures.read.sound c.requires c.node_at-own.ensures.is
    c.node_at-part.ensures.is c.in-Records.is c.in-Array.is)

pub overflow_add-first : goal.overflow_add-first
overflow_add-first c =
    let slots = c.args.self.now.slots in
    let side : AreSideBySide slots c.in_ok-number.number c.node_at-part.result.start c.in_ok-number.content
    (family_links slots.families slots.links c.node_at-part.result.content) =
    subst (AreSideBySide slots c.in_ok-number.number c.node_at-part.result.start c.in_ok-number.content)
    c.family-links.ensures c.in_ok-number.ensures in
    let all : c.from.result * c.args.index + c.in_ok-number.content + length c.family-links.result.now
    ≤ length c.text-bytes.result.now =
    rw (c.from.ensures, c.text-bytes.ensures, c.family-links.ensures) (part_within_row slots c.args.array c.args.index
    c.args.node c.node_at-own.result c.node_at-part.result c.in-Records.stride c.in-Records.size
    c.node_at-own.ensures.read.sound c.requires c.node_at-own.ensures.is c.node_at-part.ensures.is c.in-Records.is
    c.in-Array.is c.in_ok-number.number c.in_ok-number.content side) in
    omega (arith, all, c.text-bytes.type_inv.0)

pub overflow_add-result : goal.overflow_add-result
overflow_add-result c =
    let slots = c.args.self.now.slots in
    let side : AreSideBySide slots c.in_ok-number.number c.node_at-part.result.start c.in_ok-number.content
    (family_links slots.families slots.links c.node_at-part.result.content) =
    subst (AreSideBySide slots c.in_ok-number.number c.node_at-part.result.start c.in_ok-number.content)
    c.family-links.ensures c.in_ok-number.ensures in
    let all : c.from.result * c.args.index + c.in_ok-number.content + length c.family-links.result.now
    ≤ length c.text-bytes.result.now =
    rw (c.from.ensures, c.text-bytes.ensures, c.family-links.ensures) (part_within_row slots c.args.array c.args.index
    c.args.node c.node_at-own.result c.node_at-part.result c.in-Records.stride c.in-Records.size
    c.node_at-own.ensures.read.sound c.requires c.node_at-own.ensures.is c.node_at-part.ensures.is c.in-Records.is
    c.in-Array.is c.in_ok-number.number c.in_ok-number.content side) in
    omega (arith, all, c.text-bytes.type_inv.0)

pub slice_bounds-result-end : goal.slice_bounds-result-end
slice_bounds-result-end c =
    let slots = c.args.self.now.slots in
    let side : AreSideBySide slots c.in_ok-number.number c.node_at-part.result.start c.in_ok-number.content
    (family_links slots.families slots.links c.node_at-part.result.content) =
    subst (AreSideBySide slots c.in_ok-number.number c.node_at-part.result.start c.in_ok-number.content)
    c.family-links.ensures c.in_ok-number.ensures in
    let all : c.from.result * c.args.index + c.in_ok-number.content + length c.family-links.result.now
    ≤ length c.text-bytes.result.now =
    rw (c.from.ensures, c.text-bytes.ensures, c.family-links.ensures) (part_within_row slots c.args.array c.args.index
    c.args.node c.node_at-own.result c.node_at-part.result c.in-Records.stride c.in-Records.size
    c.node_at-own.ensures.read.sound c.requires c.node_at-own.ensures.is c.node_at-part.ensures.is c.in-Records.is
    c.in-Array.is c.in_ok-number.number c.in_ok-number.content side) in
    omega (arith, all)

pub returns : goal.returns
returns c = λ names.
    let slots = c.args.self.now.slots in
    let side : AreSideBySide slots c.in_ok-number.number c.node_at-part.result.start c.in_ok-number.content
    (family_links slots.families slots.links c.node_at-part.result.content) =
    subst (AreSideBySide slots c.in_ok-number.number c.node_at-part.result.start c.in_ok-number.content)
    c.family-links.ensures c.in_ok-number.ensures in
    let first = c.from.result * c.args.index + c.in_ok-number.content in
    let count = length c.family-links.result.now in
    let size : first + count - first ≡ count = omega arith in
    rw (size, c.from.ensures, c.text-bytes.ensures, c.family-links.ensures) (part_row slots c.args.array c.args.index
    c.args.node c.node_at-own.result c.node_at-part.result c.in-Records.stride c.in-Records.size
    c.node_at-own.ensures.read.sound c.requires c.node_at-own.ensures.is c.node_at-part.ensures.is c.in-Records.is
    c.in-Array.is c.in_ok-number.number c.in_ok-number.content side names)
