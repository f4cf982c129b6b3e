use Rattle.value_text.specs.StyledNumbers.{hexadecimal}
use Rattle.value_text.proofs.Puts.{puts_next}
use Rattle.value_text.proofs.print.printer.Printer.put_hex.Goals as goal

pub returns : goal.returns
unfolding hexadecimal
returns g c = puts_next c.put.ensures c.put_hex_digits.ensures
