use Rattle.std.proofs.Common.{subst, sym}
use Rattle.value_text.specs.Puts.{Puts}
use Rattle.value_text.specs.ShowWords.{hex_text}
use Rattle.value_text.proofs.HexPlaces.{zero_text}
use Rattle.value_text.proofs.Puts.{puts_none}
use Rattle.value_text.proofs.print.printer.Printer.put_high.Goals as goal

pub returns-then-high-eq0 : goal.returns-then-high-eq0
returns-then-high-eq0 g c =
    subst (λ n. Puts g.W.Write.contents c.args.self.now c.args.self.now (hex_text n)) (sym c.if-high-eq0.true)
    (rw zero_text puts_none)
