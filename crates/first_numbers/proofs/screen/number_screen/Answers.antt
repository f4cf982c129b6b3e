-- `number_screen`: each byte for which the constraint fails rules the start out.
use Rattle.std.proofs.Common.{arith, refl}
use Rattle.first_numbers.proofs.Screened.{is_screen}
use Rattle.first_numbers.proofs.screen.number_screen.Goals as goal

pub returns : goal.returns
returns c =
    is_screen c.args.first.now c.args.x.now c.args.order c.chosen_index-index.result c.in_ok-tests.tests _
    c.requires.sound c.requires.alone c.if-number-ne0.false c.if-x-ne0.false
    (omega (arith, c.chosen_index-index.ensures, c.from-count.ensures)) (omega (arith, c.div_ceil.ensures))
    (omega (arith, c.in_ok-checked_add.ensures))
    (rw (c.place_of.ensures, c.ordered.ensures, c.from-count.ensures) refl) c.failing_bytes.ensures
