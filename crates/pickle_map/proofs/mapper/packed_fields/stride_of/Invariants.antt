use Rattle.std.proofs.Common.{◌≤◌, length, drop, Some}
use Rattle.pickle_types.specs.Table.{type_of, open_fields}
use Rattle.mapping_plans.specs.Rows.{column_widths}
use Rattle.pickle_map.specs.Columns.{IsStride}
use Rattle.pickle_map.proofs.mapper.packed_fields.stride_of.Given as goal

abbrev pub invariant-loop-at : goal.invariant-loop-at
invariant-loop-at l = record {
  within : l.at ≤ length l.fields;
  few : l.all ≤ 512;
  so_far : IsStride (Some l.all) (column_widths (open_fields (type_of l.nodes) (drop l.at l.fields)));
}

abbrev pub decreases-loop-at : goal.decreases-loop-at
decreases-loop-at l = l.at
