use Rattle.std.proofs.Common.{◌+◌, ◌*◌}
use Rattle.value_text.proofs.print.printer.Printer.+hex.Given as goal

abbrev pub decreases-put_hex_digits : goal.decreases-put_hex_digits
decreases-put_hex_digits g l = 2 * l.most

abbrev pub decreases-put_upper_digits : goal.decreases-put_upper_digits
decreases-put_upper_digits g l = 2 * l.most + 1
