use Rattle.std.proofs.Common.{rules}
use Rattle.value_text.proofs.Puts.{puts_written}
use Rattle.value_text.proofs.print.printer.Printer.write.Goals as goal

pub returns-then-not-self : goal.returns-then-not-self
returns-then-not-self g c =
    puts_written c.put.result (search rules) (search rules) (search rules) (search rules) (search rules) (search rules)
