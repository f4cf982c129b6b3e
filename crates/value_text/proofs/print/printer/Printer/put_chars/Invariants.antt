use Rattle.std.proofs.Common.{drop}
use Rattle.pickle_meaning.specs.Values.{members_of}
use Rattle.value_text.specs.CharTexts.{chars_in, trimmed}
use Rattle.value_text.specs.Escaped.{spelled_by}
use Rattle.value_text.specs.TypedValue.{mapped_in}
use Rattle.value_text.proofs.Puts.{Told}
use Rattle.value_text.proofs.print.printer.Printer.put_chars.Given as goal

abbrev pub invariant-loop-place : goal.invariant-loop-place
invariant-loop-place g l =
    Told g.W.Write.contents l.initial.self l.self
    (spelled_by l.fn.escapes (drop l.place (trimmed (chars_in (members_of (mapped_in l.fn.array))))))
    (spelled_by l.fn.escapes (trimmed (chars_in (members_of (mapped_in l.fn.array)))))
