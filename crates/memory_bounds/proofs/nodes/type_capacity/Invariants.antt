use Rattle.std.proofs.Common.{◌≡◌, length}
use Rattle.pickle_types.specs.TypeTable.{nodes_of}
use Rattle.memory_bounds.specs.Held.{AreKnown}
use Rattle.memory_bounds.proofs.nodes.type_capacity.Given as goal

abbrev pub invariant-loop-node : goal.invariant-loop-node
invariant-loop-node l = record {
  known : AreKnown (nodes_of l.table) l.known.items l.bits;
  count : length l.known.items ≡ l.node-index;
}
