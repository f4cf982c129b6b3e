use Rattle.std.proofs.Common.{arith}
use Rattle.pickle_meaning.specs.Values.{members_of}
use Rattle.value_store.specs.Refs.{value_shown}
use Rattle.value_text.specs.ShowText.{shown_letter, shown_letters}
use Rattle.value_text.proofs.Puts.{told_none, told_next, told_all}
use Rattle.value_text.proofs.ShowLines.{flat_first, flat_none}
use Rattle.value_text.proofs.print.printer.Printer.put_shown_letters.Goals as goal

pub loop-i-init : goal.loop-i-init
unfolding shown_letters
loop-i-init g c = told_none

pub loop-i-preserved : goal.loop-i-preserved
loop-i-preserved g c = told_next (flat_first (shown_letter (members_of (value_shown c.args.value)) c.args.from)
    c.loop-i.i 16 (omega (arith, c.loop-i-test.true))) c.loop-i.invariant c.put_letter.ensures

pub returns : goal.returns
returns g c = told_all (flat_none (shown_letter (members_of (value_shown c.args.value)) c.args.from) c.loop-i.i 16
    (omega (arith, c.loop-i-test.false))) c.loop-i.invariant
