use Rattle.std.proofs.Common.{◌-◌}
use Rattle.std.specs.List.{flat_map, range_with_len}
use Rattle.pickle_meaning.specs.Values.{members_of}
use Rattle.value_store.specs.Refs.{value_shown}
use Rattle.value_text.specs.ShowText.{shown_letter, shown_letters}
use Rattle.value_text.proofs.Puts.{Told}
use Rattle.value_text.proofs.print.printer.Printer.put_shown_letters.Given as goal

abbrev pub invariant-loop-i : goal.invariant-loop-i
invariant-loop-i g l =
    Told g.W.Write.contents l.initial.self l.self
    (flat_map (shown_letter (members_of (value_shown l.fn.value)) l.fn.from) (range_with_len l.i (16 - l.i)))
    (shown_letters (members_of (value_shown l.fn.value)) l.fn.from)
