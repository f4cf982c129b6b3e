use Rattle.std.proofs.Common.{arith}
use Rattle.first_numbers.specs.Held.{numbers_shown}
use Rattle.first_numbers.proofs.Near.{near_moved}
use Rattle.first_numbers.proofs.layouts.inside.Goals as goal

pub push_moved-requires : goal.push_moved-requires
push_moved-requires c = (
  c.args.first.now.need,
  omega (arith, c.if-need-ge-LIMIT.false, c.max-need.ensures, c.sum_of.ensures),
  rw c.deref.ensures.value c.requires,
)

pub returns-clause-sound : goal.returns-clause-sound
returns-clause-sound c =
    rw (c.in_ok-push_moved.ensures, c.new-numbers.ensures.items, c.deref.ensures.value)
    (near_moved c.args.first.now.need c.max-need.result c.args.place c.args.set
    (numbers_shown c.args.first.now.numbers.items) (omega (arith, c.max-need.ensures, c.sum_of.ensures)) c.requires)
