use Rattle.std.proofs.Common.{true, drop}
use Rattle.value_text.specs.PartText.{row_text, byte_text}
use Rattle.value_text.proofs.Puts.{Told}
use Rattle.value_text.proofs.print.printer.Printer.put_byte_row.Given as goal

abbrev pub invariant-loop-byte : goal.invariant-loop-byte
invariant-loop-byte g l =
    Told g.W.Write.contents l.initial.self l.self
    (row_text (byte_text g.F.Form.notation l.numbers l.number) l.first (drop l.byte-index l.bytes))
    (row_text (byte_text g.F.Form.notation l.numbers l.number) true l.bytes)
