use Rattle.value_text.proofs.Puts.{puts_next}
use Rattle.value_text.proofs.print.printer.Printer.put_row_of.Goals as goal

pub returns : goal.returns
returns g c = puts_next c.put_margin_of_many.ensures
    (puts_next c.put_columns.ensures (puts_next c.put.ensures (puts_next c.put_shown_letters.ensures c.put-2.ensures)))
