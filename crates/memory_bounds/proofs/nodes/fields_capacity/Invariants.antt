use Rattle.std.proofs.Common.{◌≤◌, length, drop}
use Rattle.pickle_types.specs.Table.{type_of, open_fields}
use Rattle.memory_bounds.specs.Held.{AreFieldCapacities}
use Rattle.memory_bounds.proofs.nodes.fields_capacity.Given as goal

abbrev pub invariant-loop-at : goal.invariant-loop-at
invariant-loop-at l = record {
  within : l.at ≤ length l.fields;
  so_far : AreFieldCapacities l.all (open_fields (type_of l.nodes) (drop l.at l.fields)) l.bits;
}

abbrev pub decreases-loop-at : goal.decreases-loop-at
decreases-loop-at l = l.at
