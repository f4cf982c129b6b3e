use Rattle.std.proofs.Common.{rules, sym, ap, subst, length, arith, ◌≤◌}
use Rattle.pickle_types.specs.Table.{type_of}
use Rattle.pickle_types.specs.TypeTable.{nodes_of}
use Rattle.tight_bounds.specs.Held.{AreGrains, AreKnown}
use Rattle.tight_bounds.proofs.Known.{item_of, known_at, next_known}
use Rattle.tight_bounds.proofs.nodes.type_grains.Goals as goal

pub loop-node-preserved : goal.loop-node-preserved
loop-node-preserved c =
    let m = c.args.bits in
    let nodes = nodes_of c.args.table.now in
    let known = c.loop-node.known.items in
    let here = item_of nodes c.nodes-node-items.result.now (length known) c.loop-node.node-index c.node-item.result
    c.nodes-node-items.ensures c.loop-node.invariant.count (omega (arith, c.loop-node-test.true)) c.node-item.is in
    let more = next_known nodes c.args.table.now.sound known m c.node-item.result c.shape_grains-grains.result here
    c.loop-node.invariant.known
    (λ ns are. c.shape_grains-grains.ensures ns (subst (λ ks. AreKnown ns ks m) (sym c.as_slice.ensures.value) are)) in
    record {
      known = subst (λ ks. AreKnown nodes ks m) (sym c.in_ok-push.ensures.items) more;
      count = search rules;
    }

pub returns : goal.returns
returns c =
    let nodes = nodes_of c.args.table.now in
    let known = c.loop-node.known.items in
    let at = rw c.node.ensures at c.index.ensures in
    let all : length nodes ≤ length known = omega (
      arith,
      ap length c.nodes-node-items.ensures,
      c.loop-node-test.false,
      c.loop-node.invariant.count,
    ) in
    subst (λ g. AreGrains g (type_of nodes c.args.id.node) c.args.bits) (sym at)
    (known_at nodes known c.args.bits c.args.id.node c.index.result.now c.loop-node.invariant.known
    (omega (arith, all, c.requires)))
