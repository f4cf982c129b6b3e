use Rattle.std.proofs.Common.{ap}
use Rattle.value_text.proofs.Puts.{told_next, told_failed}
use Rattle.poke_batch.specs.Selected.{cells_text}
use Rattle.poke_batch.specs.TypedLines.{typed_row_cell}
use Rattle.poke_batch.proofs.Items.{item_left}
use Rattle.poke_batch.proofs.line.put_cells.Goals as goal

pub returns-then-printer : goal.returns-then-printer
returns-then-printer g c = told_failed c.if-printer.true c.loop-column.invariant

pub loop-column-preserved : goal.loop-column-preserved
loop-column-preserved g c =
    let next = item_left c.args.columns.now c.loop-column.column-index c.column-item.result
    c.loop-column-test.true c.column-item.is in
    told_next (ap (cells_text c.args.format.mode (typed_row_cell c.args.format.style c.args.format.mode c.args.row)
    c.loop-column.first) next) c.loop-column.invariant c.put_column.ensures
