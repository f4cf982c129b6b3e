use Rattle.std.proofs.Common.{arith}
use Rattle.value_store.proofs.Linked.{parts_of}
use Rattle.value_store.proofs.stored.StoredValue.count_linked.Goals as goal

pub returns-then-packed-gt0 : goal.returns-then-packed-gt0
returns-then-packed-gt0 c =
    let parts = parts_of c.args.self.now.store.now.slots c.args.self.now.place c.args.links.now c.args.packed
    c.node_at-node.ensures.read.sound c.args.self.now.in_range c.requires.links c.requires.packed in
    λ names. parts.packed_count names (omega (arith, c.if-packed-gt0.true))

pub returns-else-packed-gt0 : goal.returns-else-packed-gt0
returns-else-packed-gt0 c =
    let parts = parts_of c.args.self.now.store.now.slots c.args.self.now.place c.args.links.now c.args.packed
    c.node_at-node.ensures.read.sound c.args.self.now.in_range c.requires.links c.requires.packed in
    λ names. parts.link_count names (omega (arith, c.if-packed-gt0.false))
