use Rattle.std.proofs.Common.{rules}
use Rattle.value_text.proofs.Puts.{puts_more}
use Rattle.value_text.proofs.print.printer.Printer.put_byte_number.Goals as goal

pub returns : goal.returns
returns g c = puts_more c.make_room.ensures.puts (search rules) (search rules) (search rules)
