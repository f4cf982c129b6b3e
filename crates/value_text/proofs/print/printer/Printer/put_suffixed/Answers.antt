use Rattle.std.proofs.Common.{rules}
use Rattle.value_text.proofs.Puts.{puts_more}
use Rattle.value_text.proofs.print.printer.Printer.put_suffixed.Goals as goal

pub returns-in-Ok : goal.returns-in-Ok
returns-in-Ok g c = puts_more c.make_room.ensures.puts (search rules) (search rules) (search rules)
