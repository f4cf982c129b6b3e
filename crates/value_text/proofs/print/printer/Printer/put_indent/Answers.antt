use Rattle.value_text.proofs.Puts.{told_next, told_last}
use Rattle.value_text.proofs.LineTexts.{blanks_first, few_blanks}
use Rattle.value_text.proofs.print.printer.Printer.put_indent.Goals as goal

pub loop-left-preserved : goal.loop-left-preserved
loop-left-preserved g c =
    told_next (blanks_first c.loop-left.left c.loop-left-test.true) c.loop-left.invariant c.put.ensures

pub returns : goal.returns
returns g c =
    told_last c.loop-left.invariant (rw (few_blanks c.loop-left.left c.loop-left-test.false) at c.put-2.ensures)
