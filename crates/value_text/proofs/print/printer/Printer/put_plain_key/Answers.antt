use Rattle.value_text.proofs.JsonKeys.{plain_key_is}
use Rattle.value_text.proofs.print.printer.Printer.put_plain_key.Goals as goal

pub returns : goal.returns
returns g c = rw (plain_key_is c.args.first c.args.name.now c.requires.plain) c.put_short_key.ensures
