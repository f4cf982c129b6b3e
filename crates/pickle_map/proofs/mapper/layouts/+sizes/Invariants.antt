use Rattle.std.proofs.Common.{◌+◌, ◌*◌, ◌≤◌, drop, length, Some}
use Rattle.pickle_types.specs.Table.{type_of, open_fields, open_parts}
use Rattle.mapping_plans.specs.Rows.{fields_layout, parts_layout}
use Rattle.pickle_map.specs.Layouts.{IsFew, IsSizeOf}
use Rattle.pickle_map.proofs.Shapes.{fields_bound, parts_bound}
use Rattle.pickle_map.proofs.mapper.layouts.+sizes.Given as goal

-- a type calls no other but for the nodes before its own
abbrev pub decreases-size_at : goal.decreases-size_at
decreases-size_at l = 2 * l.at + 1

abbrev pub decreases-fields_size : goal.decreases-fields_size
decreases-fields_size l = 2 * fields_bound l.fields.now

abbrev pub decreases-parts_size : goal.decreases-parts_size
decreases-parts_size l = 2 * parts_bound l.parts.now

abbrev pub decreases-fields_size-loop-at : goal.decreases-fields_size-loop-at
decreases-fields_size-loop-at l = l.at

abbrev pub invariant-fields_size-loop-at : goal.invariant-fields_size-loop-at
invariant-fields_size-loop-at l = record {
  within : l.at ≤ length l.fields;
  few : IsFew (Some l.all);
  so_far : IsSizeOf (Some l.all) (fields_layout l.level (open_fields (type_of l.nodes) (drop l.at l.fields)));
}

abbrev pub decreases-parts_size-loop-at : goal.decreases-parts_size-loop-at
decreases-parts_size-loop-at l = l.at

abbrev pub invariant-parts_size-loop-at : goal.invariant-parts_size-loop-at
invariant-parts_size-loop-at l = record {
  within : l.at ≤ length l.parts;
  few : IsFew (Some l.all);
  so_far : IsSizeOf (Some l.all) (parts_layout l.level (open_parts (type_of l.nodes) (drop l.at l.parts)));
}
