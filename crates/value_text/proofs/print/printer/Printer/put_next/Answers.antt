use Rattle.value_text.specs.Escaped.{escape_of}
use Rattle.value_text.proofs.StringTexts.{plain_text}
use Rattle.value_text.proofs.print.printer.Printer.put_next.Goals as goal

pub returns-else-run-eq0-clause-puts : goal.returns-else-run-eq0-clause-puts
returns-else-run-eq0-clause-puts g c =
    rw (c.plain_len-run.ensures, plain_text (escape_of c.args.escapes) c.args.bytes.now)
    (rw c.plain_len-run.ensures at c.put.ensures)
