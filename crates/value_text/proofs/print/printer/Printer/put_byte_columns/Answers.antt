use Rattle.std.proofs.Common.{arith, subst, sym}
use Rattle.value_text.specs.Puts.{Puts}
use Rattle.value_text.specs.ShowWords.{byte_column, byte_columns, two_digits}
use Rattle.value_text.specs.ShowParts.{bytes_lent}
use Rattle.value_text.proofs.Puts.{told_none, told_next, told_all}
use Rattle.value_text.proofs.ShowLines.{flat_first, flat_none}
use Rattle.value_text.proofs.print.printer.Printer.put_byte_columns.Goals as goal

pub loop-i-init : goal.loop-i-init
unfolding byte_columns
loop-i-init g c = told_none

pub loop-i-preserved : goal.loop-i-preserved
loop-i-preserved g c =
    told_next (flat_first (byte_column (bytes_lent c.args.file) c.args.start c.args.size) c.loop-i.i 8
    (omega (arith, c.loop-i-test.true))) c.loop-i.invariant (rw c.of_part.ensures at c.put_byte_column.ensures)

pub returns : goal.returns
returns g c = told_all (flat_none (byte_column (bytes_lent c.args.file) c.args.start c.args.size) c.loop-i.i 8
    (omega (arith, c.loop-i-test.false))) c.loop-i.invariant
