use Rattle.std.proofs.Common.{◌≤◌, length, drop}
use Rattle.pickle_types.specs.Table.{type_of, open_parts}
use Rattle.memory_bounds.specs.Held.{ArePartCapacities}
use Rattle.memory_bounds.proofs.nodes.parts_capacity.Given as goal

abbrev pub invariant-loop-at : goal.invariant-loop-at
invariant-loop-at l = record {
  within : l.at ≤ length l.parts;
  so_far : ArePartCapacities l.all (open_parts (type_of l.nodes) (drop l.at l.parts)) l.bits;
}

abbrev pub decreases-loop-at : goal.decreases-loop-at
decreases-loop-at l = l.at
