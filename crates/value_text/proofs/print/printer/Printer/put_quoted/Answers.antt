use Rattle.std.proofs.Common.{subst}
use Rattle.value_text.specs.Puts.{Puts}
use Rattle.value_text.proofs.Puts.{puts_next}
use Rattle.value_text.proofs.StringTexts.{quotes_are}
use Rattle.value_text.proofs.print.printer.Printer.put_quoted.Goals as goal

pub returns : goal.returns
returns g c =
    subst (Puts g.W.Write.contents c.args.self.now c.put-2.new.self) (quotes_are c.args.escapes c.args.bytes.now)
    (puts_next c.put.ensures (puts_next c.put_bytes.ensures c.put-2.ensures))
