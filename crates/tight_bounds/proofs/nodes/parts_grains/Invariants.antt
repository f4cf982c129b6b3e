use Rattle.std.proofs.Common.{◌≤◌, List, length, drop}
use Rattle.pickle_types.specs.declared.node.Node.{Node}
use Rattle.pickle_types.specs.Table.{type_of, open_parts}
use Rattle.tight_bounds.specs.Held.{ArePartGrains, AreKnown}
use Rattle.tight_bounds.proofs.nodes.parts_grains.Given as goal

abbrev pub invariant-loop-at : goal.invariant-loop-at
invariant-loop-at l = record {
  within : l.at ≤ length l.parts;
  so_far : (nodes : List Node) → AreKnown nodes l.known l.bits →
      ArePartGrains l.all (open_parts (type_of nodes) (drop l.at l.parts)) l.bits;
}

abbrev pub decreases-loop-at : goal.decreases-loop-at
decreases-loop-at l = l.at
