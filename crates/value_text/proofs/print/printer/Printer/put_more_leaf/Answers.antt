use Rattle.value_text.proofs.Puts.{puts_next}
use Rattle.value_text.proofs.print.printer.Printer.put_more_leaf.Goals as goal

pub returns : goal.returns
returns g c =
    puts_next c.put_steps.ensures
    (puts_next c.put_more_step.ensures (puts_next (rw c.start_at.ensures at c.put_more_cells.ensures)
    (puts_next c.put.ensures (puts_next c.put_more.ensures c.put-2.ensures))))
