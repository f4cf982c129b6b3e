use Rattle.std.proofs.Common.{take, drop}
use Rattle.pickle_meaning.specs.Values.{members_of}
use Rattle.value_store.specs.Refs.{value_shown}
use Rattle.value_text.specs.CharTexts.{chars_in, trimmed}
use Rattle.value_text.specs.ValueText.{bytes_text}
use Rattle.value_text.proofs.Puts.{Told}
use Rattle.value_text.proofs.print.printer.Printer.put_letters.Given as goal

abbrev pub invariant-loop-place : goal.invariant-loop-place
invariant-loop-place g l =
    Told g.W.Write.contents l.initial.self l.self
    (bytes_text (drop l.place (take l.count (chars_in (members_of (value_shown l.fn.value))))))
    (bytes_text (trimmed (chars_in (members_of (value_shown l.fn.value)))))
