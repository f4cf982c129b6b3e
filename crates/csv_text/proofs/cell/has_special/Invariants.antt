use Rattle.std.proofs.Common.{◌≡◌, drop}
use Rattle.csv_text.specs.Quotes.{has_special}
use Rattle.csv_text.specs.TextBytes.{text_bytes}
use Rattle.csv_text.proofs.cell.has_special.Given as goal

abbrev pub invariant-loop-place : goal.invariant-loop-place
invariant-loop-place l = has_special (text_bytes l.text) ≡ has_special (drop l.place (text_bytes l.text))
