use Rattle.std.proofs.Common.{rules, sym, ap, subst, length, arith, ◌≤◌}
use Rattle.pickle_types.specs.Table.{type_of, open_shape}
use Rattle.pickle_types.specs.TypeTable.{nodes_of}
use Rattle.tight_bounds.proofs.Known.{holds_at, item_of, one_more_holds, opened_type}
use Rattle.memory_bounds.specs.Held.{AreCapacities, AreKnown}
use Rattle.memory_bounds.proofs.nodes.type_capacity.Goals as goal

pub loop-node-preserved : goal.loop-node-preserved
loop-node-preserved c =
    let m = c.args.bits in
    let nodes = nodes_of c.args.table.now in
    let known = c.loop-node.known.items in
    let own = c.shape_capacity-capacity.result in
    let here = item_of nodes c.nodes-nodes.result.now (length known) c.loop-node.node-index c.node-item.result
    c.nodes-nodes.ensures c.loop-node.invariant.count (omega (arith, c.loop-node-test.true)) c.node-item.is in
    let opened = opened_type (λ t. AreCapacities own t m) nodes c.args.table.now.sound (length known) c.node-item.result
    here (subst (λ ns. AreCapacities own (open_shape (type_of ns) c.node-item.result.shape) m) c.nodes-nodes.ensures
    c.shape_capacity-capacity.ensures) in
    record {
      known = subst (λ ks. AreKnown nodes ks m) (sym c.in_ok-push.ensures.items) (record {
        each = one_more_holds (λ a i. AreCapacities a (type_of nodes i) m) known own c.loop-node.invariant.known.each
            opened;
      });
      count = search rules;
    }

pub returns : goal.returns
returns c =
    let m = c.args.bits in
    let nodes = nodes_of c.args.table.now in
    let known = c.loop-node.known.items in
    let at = rw c.node.ensures at c.index.ensures in
    let all : length nodes ≤ length known =
    omega (arith, ap length c.nodes-nodes.ensures, c.loop-node-test.false, c.loop-node.invariant.count) in
    subst (λ a. AreCapacities a (type_of nodes c.args.id.node) m) (sym at)
    (holds_at (λ a i. AreCapacities a (type_of nodes i) m) known c.args.id.node c.index.result.now
    c.loop-node.invariant.known.each (omega (arith, all, c.requires)))
