use Rattle.std.proofs.Common.{ap}
use Rattle.value_text.proofs.Puts.{told_next, told_failed}
use Rattle.poke_batch.specs.Selected.{line_of}
use Rattle.poke_batch.specs.TypedLines.{lent_sight, typed_patterns}
use Rattle.poke_batch.proofs.Items.{item_left}
use Rattle.poke_batch.proofs.selected.put_patterns.Goals as goal

pub returns-then-printer : goal.returns-then-printer
returns-then-printer g c = told_failed c.if-printer.true c.loop-pattern.invariant

pub loop-pattern-preserved : goal.loop-pattern-preserved
loop-pattern-preserved g c =
    let next = item_left c.args.patterns.now c.loop-pattern.pattern-index c.pattern-item.result c.loop-pattern-test.true
    c.pattern-item.is in
    told_next (ap
    (typed_patterns (lent_sight c.args.format.sight) c.args.format.style c.args.format.mode (line_of c.args.format.line)
    c.args.value) next) c.loop-pattern.invariant
    (rw c.as_slice.ensures.value at c.put_each.ensures)
