use Rattle.std.proofs.Common.{arith, ap, sym}
use Rattle.pickle_meaning.specs.Values.{members_of}
use Rattle.value_store.specs.Refs.{value_shown}
use Rattle.value_text.specs.CharTexts.{chars_in}
use Rattle.value_text.specs.ValueText.{bytes_text}
use Rattle.value_text.proofs.Puts.{told_none, told_same, told_next, told_all, told_failed}
use Rattle.value_text.proofs.ShowChars.{chars_count, text_next, text_end}
use Rattle.value_text.proofs.print.printer.Printer.put_letters.Goals as goal

pub loop-place-init : goal.loop-place-init
loop-place-init g c = told_same (ap bytes_text (sym c.trimmed_len-count.ensures.text)) told_none

pub loop-place-preserved : goal.loop-place-preserved
loop-place-preserved g c =
    let bytes = chars_in (members_of (value_shown c.args.value)) in
    told_next (text_next bytes c.trimmed_len-count.result c.loop-place.place c.char_at.result
    (omega (arith, chars_count (members_of (value_shown c.args.value)), c.trimmed_len-count.ensures.most))
    (omega (arith, c.loop-place-test.true)) c.char_at.ensures) c.loop-place.invariant c.put_spelled.ensures

pub returns : goal.returns
returns g c = told_all (text_end (chars_in (members_of (value_shown c.args.value))) c.trimmed_len-count.result
    c.loop-place.place (omega (arith, c.loop-place-test.false))) c.loop-place.invariant

pub returns-then-self : goal.returns-then-self
returns-then-self g c = told_failed c.if-self.true c.loop-place.invariant
