use Rattle.std.proofs.Common.{subst}
use Rattle.pickle_meaning.specs.Values.{members_of}
use Rattle.value_text.specs.Puts.{Puts}
use Rattle.value_text.specs.CharTexts.{chars_in, trimmed}
use Rattle.value_text.specs.TypedValue.{mapped_in}
use Rattle.value_text.proofs.Puts.{puts_next}
use Rattle.value_text.proofs.StringTexts.{quotes_are}
use Rattle.value_text.proofs.print.printer.Printer.put_char_text.Goals as goal

pub returns : goal.returns
returns g c =
    subst (Puts g.W.Write.contents c.args.self.now c.put-2.new.self)
    (quotes_are c.args.escapes (trimmed (chars_in (members_of (mapped_in c.args.array.now)))))
    (puts_next c.put.ensures (puts_next c.put_chars.ensures c.put-2.ensures))
