use Rattle.std.proofs.Common.{subst}
use Rattle.value_text.specs.Puts.{Puts}
use Rattle.poke_batch.specs.TypedLines.{lent_sight}
use Rattle.poke_batch.proofs.SelectedTexts.{row_lines, whole_row_lines}
use Rattle.poke_batch.proofs.line.put_lines.Goals as goal

pub returns-in-Row : goal.returns-in-Row
returns-in-Row g c =
    rw c.in-Row.is (subst (Puts g.W.Write.contents c.args.printer.now c.put_row.new.printer)
    (row_lines (lent_sight c.args.format.sight) c.args.format.style c.args.format.mode c.in-Row.columns.now c.args.part)
    c.put_row.ensures)

pub returns-in-WholeRow : goal.returns-in-WholeRow
returns-in-WholeRow g c =
    rw c.in-WholeRow.is (subst (Puts g.W.Write.contents c.args.printer.now c.put_whole_row.new.printer)
    (whole_row_lines (lent_sight c.args.format.sight) c.args.format.style c.args.format.mode
    c.in-WholeRow.columns.now c.args.part)
    c.put_whole_row.ensures)
