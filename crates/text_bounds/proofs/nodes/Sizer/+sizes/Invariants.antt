use Rattle.std.proofs.Common.{◌+◌, ◌*◌, ◌≤◌, length, drop}
use Rattle.pickle_types.specs.Table.{type_of, open_fields, open_parts}
use Rattle.text_bounds.specs.TextHeld.{AreFieldSizes, ArePartSizes}
use Rattle.text_bounds.proofs.nodes.Sizer.+sizes.Given as goal

abbrev pub decreases-fields_sizes : goal.decreases-fields_sizes
decreases-fields_sizes l = 3 * l.below

abbrev pub decreases-node_size : goal.decreases-node_size
decreases-node_size l = 3 * l.at + 2

abbrev pub decreases-parts_sizes : goal.decreases-parts_sizes
decreases-parts_sizes l = 3 * l.below

abbrev pub decreases-shape_size : goal.decreases-shape_size
decreases-shape_size l = 3 * l.at + 1

abbrev pub invariant-fields_sizes-loop-at : goal.invariant-fields_sizes-loop-at
invariant-fields_sizes-loop-at l = record {
  within : l.at ≤ length l.fields;
  so_far : AreFieldSizes l.all l.self.form l.at
      (open_fields (type_of l.self.nodes.now) (drop l.at l.fields)) l.self.bits;
}

abbrev pub decreases-fields_sizes-loop-at : goal.decreases-fields_sizes-loop-at
decreases-fields_sizes-loop-at l = l.at

abbrev pub invariant-parts_sizes-loop-at : goal.invariant-parts_sizes-loop-at
invariant-parts_sizes-loop-at l = record {
  within : l.at ≤ length l.parts;
  so_far : ArePartSizes l.all l.self.form l.at (open_parts (type_of l.self.nodes.now) (drop l.at l.parts)) l.self.bits;
}

abbrev pub decreases-parts_sizes-loop-at : goal.decreases-parts_sizes-loop-at
decreases-parts_sizes-loop-at l = l.at
