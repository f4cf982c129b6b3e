use Rattle.std.proofs.Common.{◌≡◌, drop}
use Rattle.value_text.specs.TypedValue.{nodes_in, types_in}
use Rattle.poke_batch.specs.Selected.{part_in, has_columns}
use Rattle.poke_batch.proofs.presence.has_cells.Given as goal

abbrev pub invariant-loop-column : goal.invariant-loop-column
invariant-loop-column l =
    has_columns (nodes_in (types_in l.fn.row)) l.columns (part_in l.fn.row)
    ≡ has_columns (nodes_in (types_in l.fn.row)) (drop l.column-index l.columns) (part_in l.fn.row)
