use Rattle.std.proofs.Common.{rules}
use Rattle.value_text.proofs.Puts.{puts_written, puts_nothing}
use Rattle.value_text.proofs.print.printer.Printer.write_line.Goals.{then-not-self, else-not-self}
use Rattle.value_text.proofs.print.printer.Printer.write_line.Goals as goal

pub returns-clause-puts : goal.returns-clause-puts
returns-clause-puts g c = elim c.if-not-self.branch [
  | then-not-self w ↦ puts_written w.put.result (search rules) (search rules) (search rules) (search rules)
      (search rules) (search rules)
  | else-not-self w ↦ puts_nothing (search rules) (search rules) (search rules)
]
