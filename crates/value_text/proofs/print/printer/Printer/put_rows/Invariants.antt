use Rattle.std.proofs.Common.{◌-◌}
use Rattle.std.specs.List.{flat_map, range_with_len}
use Rattle.pickle_meaning.specs.Values.{members_of}
use Rattle.value_store.specs.Refs.{value_shown}
use Rattle.value_text.specs.ShowText.{row_at}
use Rattle.value_text.specs.ShowParts.{rows_of}
use Rattle.value_text.proofs.Puts.{Told}
use Rattle.value_text.proofs.print.printer.Printer.put_rows.Given as goal

abbrev pub invariant-loop-row : goal.invariant-loop-row
invariant-loop-row g l =
    Told g.W.Write.contents l.initial.self l.self
    (flat_map (row_at l.fn.look l.fn.level (members_of (value_shown l.fn.value)))
    (range_with_len l.row (l.fn.rows - l.row)))
    (rows_of l.fn.look l.fn.level l.fn.rows (value_shown l.fn.value))
