use Rattle.std.proofs.Common.{◌-◌}
use Rattle.std.specs.List.{flat_map, range_with_len}
use Rattle.value_text.specs.ShowWords.{byte_column, byte_columns}
use Rattle.value_text.specs.ShowParts.{bytes_lent}
use Rattle.value_text.proofs.Puts.{Told}
use Rattle.value_text.proofs.print.printer.Printer.put_byte_columns.Given as goal

abbrev pub invariant-loop-i : goal.invariant-loop-i
invariant-loop-i g l =
    Told g.W.Write.contents l.initial.self l.self
    (flat_map (byte_column (bytes_lent l.fn.file) l.fn.start l.fn.size) (range_with_len l.i (8 - l.i)))
    (byte_columns (bytes_lent l.fn.file) l.fn.start l.fn.size)
