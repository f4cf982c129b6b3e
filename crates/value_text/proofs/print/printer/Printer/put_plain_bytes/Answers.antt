use Rattle.std.proofs.Common.{arith}
use Rattle.value_text.proofs.Puts.{told_next, told_failed}
use Rattle.value_text.proofs.RowTexts.{row_first}
use Rattle.value_text.proofs.print.printer.Printer.put_plain_bytes.Goals as goal

pub loop-byte-preserved : goal.loop-byte-preserved
loop-byte-preserved g c =
    told_next (row_first g.F.Form.plain_byte c.args.bytes.now c.loop-byte.first c.loop-byte.byte-index
    (omega (arith, c.loop-byte-test.true))) c.loop-byte.invariant c.put_plain_byte.ensures

pub returns-then-self : goal.returns-then-self
returns-then-self g c = told_failed c.if-self.true c.loop-byte.invariant
