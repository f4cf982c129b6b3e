use Rattle.std.proofs.Common.{drop}
use Rattle.value_text.proofs.Puts.{Told}
use Rattle.value_text.specs.JsonText.{json_escape}
use Rattle.value_text.specs.ValueText.{spelled}
use Rattle.csv_text.specs.Quotes.{doubled}
use Rattle.csv_text.specs.TextBytes.{text_bytes}
use Rattle.csv_text.proofs.json_string.put_bytes.Given as goal

abbrev pub invariant-loop-place : goal.invariant-loop-place
invariant-loop-place g l = Told g.W.Write.contents l.initial.printer l.printer
    (doubled (spelled json_escape (drop l.place (text_bytes l.text))))
    (doubled (spelled json_escape (text_bytes l.text)))
