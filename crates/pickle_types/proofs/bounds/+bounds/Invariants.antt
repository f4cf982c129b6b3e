use Rattle.std.proofs.Common.{◌+◌, ◌*◌, ◌≤◌, length, drop}
use Rattle.pickle_types.specs.Table.{type_of, open_fields, open_parts}
use Rattle.pickle_types.specs.Holds.{AreFieldBounds, ArePartBounds}
use Rattle.pickle_types.proofs.bounds.+bounds.Given as goal

abbrev pub decreases-fields_bounds : goal.decreases-fields_bounds
decreases-fields_bounds l = 3 * l.below

abbrev pub decreases-node_bounds : goal.decreases-node_bounds
decreases-node_bounds l = 3 * l.at + 2

abbrev pub decreases-parts_bounds : goal.decreases-parts_bounds
decreases-parts_bounds l = 3 * l.below

abbrev pub decreases-shape_bounds : goal.decreases-shape_bounds
decreases-shape_bounds l = 3 * l.at + 1

abbrev pub invariant-fields_bounds-loop-at : goal.invariant-fields_bounds-loop-at
invariant-fields_bounds-loop-at l = record {
  within : l.at ≤ length l.fields;
  so_far : AreFieldBounds l.all (open_fields (type_of l.nodes) (drop l.at l.fields)) l.bits;
}

abbrev pub decreases-fields_bounds-loop-at : goal.decreases-fields_bounds-loop-at
decreases-fields_bounds-loop-at l = l.at

abbrev pub invariant-parts_bounds-loop-at : goal.invariant-parts_bounds-loop-at
invariant-parts_bounds-loop-at l = record {
  within : l.at ≤ length l.parts;
  so_far : ArePartBounds l.all (open_parts (type_of l.nodes) (drop l.at l.parts)) l.bits;
}

abbrev pub decreases-parts_bounds-loop-at : goal.decreases-parts_bounds-loop-at
decreases-parts_bounds-loop-at l = l.at
