use Rattle.pickle_meaning.specs.Values.{members_of}
use Rattle.value_text.specs.TypedValue.{typed_shown}
use Rattle.value_text.specs.Notation.{no_key}
use Rattle.value_text.specs.StyledValue.{written_members}
use Rattle.value_text.specs.PartText.{elements_text}
use Rattle.value_text.proofs.Puts.{Told}
use Rattle.value_text.proofs.MemberTexts.{members_from}
use Rattle.value_text.proofs.print.printer.Printer.put_row.Given as goal

abbrev pub invariant-loop-place : goal.invariant-loop-place
invariant-loop-place g l =
    Told g.W.Write.contents l.initial.self l.self
    (written_members g.F.Form.notation l.fn.style l.fn.style.elements no_key l.place l.first
    (members_from l.place (members_of (typed_shown l.fn.value))))
    (elements_text g.F.Form.notation l.fn.style (typed_shown l.fn.value))
