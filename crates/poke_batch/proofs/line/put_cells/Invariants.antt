use Rattle.std.proofs.Common.{true, drop}
use Rattle.value_text.proofs.Puts.{Told}
use Rattle.poke_batch.specs.Selected.{cells_text}
use Rattle.poke_batch.specs.TypedLines.{typed_row_cell}
use Rattle.poke_batch.proofs.line.put_cells.Given as goal

abbrev pub invariant-loop-column : goal.invariant-loop-column
invariant-loop-column g l =
    Told g.W.Write.contents l.initial.printer l.printer
    (cells_text l.fn.format.mode (typed_row_cell l.fn.format.style l.fn.format.mode l.fn.row) l.first
    (drop l.column-index l.columns))
    (cells_text l.fn.format.mode (typed_row_cell l.fn.format.style l.fn.format.mode l.fn.row) true l.columns)
