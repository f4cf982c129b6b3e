use Rattle.std.proofs.Common.{arith}
use Rattle.first_numbers.proofs.Near.{near_at}
use Rattle.first_numbers.proofs.layouts.push_moved.Goals as goal

pub moved_number-requires : goal.moved_number-requires
moved_number-requires c =
    let near =
    near_at c.requires.0 c.args.numbers.now c.loop-x.x-index c.x-item.result c.requires.2 c.loop-x-test.true in
    let ends = near.ends in
    let is = c.x-item.is in
    let small = c.requires.1 in
    rw is (omega (arith, ends, small))
