use Rattle.std.proofs.Common.{◌≡◌, ◌+◌, ◌<◌, List, arith, get_or, length, refl, subst}
use Rattle.bit_space.proofs.Failures.{keeps_all}
use Rattle.first_numbers.specs.declared.number.FirstNumber.{FirstNumber}
use Rattle.first_numbers.specs.Runs.{none_fail}
use Rattle.first_numbers.proofs.Reading.{item_near, next_fails}
use Rattle.first_numbers.proofs.number.First.missed_steps.Goals as goal

pub failed_steps-requires-clause-numeral : goal.failed_steps-requires-clause-numeral
failed_steps-requires-clause-numeral g c =
    (item_near c.args.self.now.need c.args.self.now.numbers.items c.deref-x-items.result.now c.loop-x.x-index
    c.x-item.result c.deref-x-items.ensures.value c.requires c.loop-x-test.true c.x-item.is).numeral

pub failed_steps-requires-clause-sound : goal.failed_steps-requires-clause-sound
failed_steps-requires-clause-sound g c =
    (item_near c.args.self.now.need c.args.self.now.numbers.items c.deref-x-items.result.now c.loop-x.x-index
    c.x-item.result c.deref-x-items.ensures.value c.requires c.loop-x-test.true c.x-item.is).sound

pub failed_steps-requires-clause-over : goal.failed_steps-requires-clause-over
failed_steps-requires-clause-over g c =
    (item_near c.args.self.now.need c.args.self.now.numbers.items c.deref-x-items.result.now c.loop-x.x-index
    c.x-item.result c.deref-x-items.ensures.value c.requires c.loop-x-test.true c.x-item.is).over

pub failed_steps-requires-clause-inside : goal.failed_steps-requires-clause-inside
failed_steps-requires-clause-inside g c =
    let near = item_near c.args.self.now.need c.args.self.now.numbers.items c.deref-x-items.result.now c.loop-x.x-index
    c.x-item.result c.deref-x-items.ensures.value c.requires c.loop-x-test.true c.x-item.is in
    let ends = near.ends in
    let same = c.loop-x.invariant.keeps.len in
    omega (arith, ends, same, c.if-start-bits.false, c.if-self-bits.false, c.len-bits.ensures)

pub loop-x-init : goal.loop-x-init
loop-x-init g c = record {
  keeps = record { len = refl; bytes = refl; failures = omega arith };
  fail = (0, omega arith, none_fail);
}

pub loop-x-preserved : goal.loop-x-preserved
loop-x-preserved g c =
    let first = g.S.Space.view c.args.space.now in
    let so_far = c.loop-x.invariant in
    let fail = so_far.fail in
    let before = fail.1 in
    let items = c.args.self.now.numbers.items in
    let here = subst (λ xs. c.x-item.result ≡ get_or xs c.loop-x.x-index c.x-item.result) c.deref-x-items.ensures.value
    c.x-item.is in
    let inside = subst (λ (xs : List FirstNumber). c.loop-x.x-index < length xs) c.deref-x-items.ensures.value
    c.loop-x-test.true in
    record {
      keeps = keeps_all so_far.keeps c.failed_steps.ensures.keeps;
      fail = (
        fail.0 + c.in_ok-more.more,
        omega (arith, before, c.in_ok-steps.ensures),
        next_fails first (g.S.Space.view c.loop-x.space) c.args.order c.args.start items
            c.loop-x.x-index c.x-item.result
            fail.0 c.in_ok-more.more so_far.keeps inside here fail.2 c.in_ok-more.ensures.fails,
      );
    }
