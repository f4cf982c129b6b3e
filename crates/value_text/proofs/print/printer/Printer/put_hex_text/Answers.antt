use Rattle.std.proofs.Common.{subst}
use Rattle.value_text.specs.Puts.{Puts}
use Rattle.value_text.proofs.HexPlaces.{hex_is}
use Rattle.value_text.proofs.print.printer.Printer.put_hex_text.Goals as goal

pub returns : goal.returns
returns g c =
    subst (Puts g.W.Write.contents c.args.self.now c.put.new.self) (hex_is c.args.n c.zero_count-zeros.result
    c.sixteen_digits-digits.result c.sixteen_digits-digits.ensures c.zero_count-zeros.ensures) c.put.ensures
