use Rattle.std.proofs.Common.{arith}
use Rattle.first_numbers.specs.Held.{numbers_shown}
use Rattle.first_numbers.specs.Layouts.{moved}
use Rattle.first_numbers.proofs.Near.{near_moved, near_more, near_append}
use Rattle.first_numbers.proofs.layouts.add_besides.Goals as goal

pub push_moved-requires : goal.push_moved-requires
push_moved-requires c = (
  c.args.first.now.need,
  omega (arith, c.if-from-ge-LIMIT.false, c.max-need.ensures, c.from.ensures),
  rw c.deref.ensures.value c.requires.more,
)

pub returns-clause-sound : goal.returns-clause-sound
returns-clause-sound c =
    let first = numbers_shown c.args.first.now.numbers.items in
    let before = numbers_shown c.args.all.now.numbers.items in
    let more = near_moved c.args.first.now.need c.max-need.result 0 c.args.set first
    (omega (arith, c.max-need.ensures)) c.requires.more in
    let old =
    near_more c.args.all.now.need c.max-need.result before (omega (arith, c.max-need.ensures)) c.requires.all in
    rw (c.in_ok-push_moved.ensures, c.deref.ensures.value)
    (near_append c.max-need.result before (moved 0 c.args.set first) old more)
