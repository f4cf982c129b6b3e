use Rattle.std.proofs.Common.{true, drop}
use Rattle.value_text.specs.PartText.{row_text}
use Rattle.value_text.proofs.Puts.{Told}
use Rattle.value_text.proofs.print.printer.Printer.put_plain_bytes.Given as goal

abbrev pub invariant-loop-byte : goal.invariant-loop-byte
invariant-loop-byte g l =
    Told g.W.Write.contents l.initial.self l.self (row_text g.F.Form.plain_byte l.first (drop l.byte-index l.bytes))
    (row_text g.F.Form.plain_byte true l.bytes)
