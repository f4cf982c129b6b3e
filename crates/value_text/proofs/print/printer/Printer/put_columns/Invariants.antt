use Rattle.std.proofs.Common.{◌-◌}
use Rattle.std.specs.List.{flat_map, range_with_len}
use Rattle.pickle_meaning.specs.Values.{members_of}
use Rattle.value_store.specs.Refs.{value_shown}
use Rattle.value_text.specs.ShowText.{column, columns}
use Rattle.value_text.proofs.Puts.{Told}
use Rattle.value_text.proofs.print.printer.Printer.put_columns.Given as goal

abbrev pub invariant-loop-i : goal.invariant-loop-i
invariant-loop-i g l =
    Told g.W.Write.contents l.initial.self l.self
    (flat_map (column (members_of (value_shown l.fn.value)) l.fn.from) (range_with_len l.i (16 - l.i)))
    (columns (members_of (value_shown l.fn.value)) l.fn.from)
