-- `unequal_steps`: the number is compared with another one, on either side.
use Rattle.std.proofs.Common.{refl}
use Rattle.first_numbers.proofs.Constants.{name_first, number_first}
use Rattle.first_numbers.proofs.zeros.unequal_steps.Goals as goal

pub returns-in-Name-Number : goal.returns-in-Name-Number
returns-in-Name-Number c own over n less here =
    let there = c.in-Name-Number in
    rw (there.is-0, there.is-1)
    (name_first c.args.width own there.field-0-0 there.field-1-0 there.value c.args.index c.args.byte there.field-0-1
    (rw (there.is-0, there.is-1) at over) (c.if-is_unlike.ensures.below refl)
    (c.if-is_unlike.ensures.unlike refl) n less here)

pub returns-in-Number-Name : goal.returns-in-Number-Name
returns-in-Number-Name c own over n less here =
    let there = c.in-Number-Name in
    rw (there.is-0, there.is-1)
    (number_first c.args.width own there.field-0-1 there.field-1-1 there.value c.args.index c.args.byte there.field-0-0
    (rw (there.is-0, there.is-1) at over) (c.if-is_unlike-2.ensures.below refl)
    (c.if-is_unlike-2.ensures.unlike refl) n less here)
