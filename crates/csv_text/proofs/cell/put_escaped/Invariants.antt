use Rattle.std.proofs.Common.{drop}
use Rattle.value_text.proofs.Puts.{Told}
use Rattle.csv_text.specs.Escapes.{escaped_from, escaped}
use Rattle.csv_text.specs.Quotes.{doubled}
use Rattle.csv_text.specs.TextBytes.{text_bytes}
use Rattle.csv_text.proofs.cell.put_escaped.Given as goal

abbrev pub invariant-loop-place : goal.invariant-loop-place
invariant-loop-place g l = Told g.W.Write.contents l.initial.printer l.printer
    (doubled (escaped_from l.left (drop l.place (text_bytes l.text)))) (doubled (escaped (text_bytes l.text)))
