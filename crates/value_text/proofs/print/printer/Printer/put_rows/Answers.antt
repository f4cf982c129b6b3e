use Rattle.std.proofs.Common.{arith}
use Rattle.pickle_meaning.specs.Values.{members_of}
use Rattle.value_store.specs.Refs.{value_shown}
use Rattle.value_text.specs.ShowText.{row_at}
use Rattle.value_text.proofs.Puts.{told_next, told_all, told_failed}
use Rattle.value_text.proofs.ShowLines.{flat_first, flat_none}
use Rattle.value_text.proofs.print.printer.Printer.put_rows.Goals as goal

pub loop-row-preserved : goal.loop-row-preserved
loop-row-preserved g c = told_next (flat_first (row_at c.args.look c.args.level (members_of (value_shown c.args.value)))
    c.loop-row.row c.args.rows (omega (arith, c.loop-row-test.true))) c.loop-row.invariant c.put_row_from.ensures

pub returns : goal.returns
returns g c =
    told_all (flat_none (row_at c.args.look c.args.level (members_of (value_shown c.args.value))) c.loop-row.row
    c.args.rows (omega (arith, c.loop-row-test.false))) c.loop-row.invariant

pub returns-then-self : goal.returns-then-self
returns-then-self g c = told_failed c.if-self.true c.loop-row.invariant
