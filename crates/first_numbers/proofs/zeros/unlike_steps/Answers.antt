-- `unlike_steps`: the number is compared with another one, on either side.
use Rattle.std.proofs.Common.{refl}
use Rattle.first_numbers.proofs.Constants.{name_apart, number_apart}
use Rattle.first_numbers.proofs.zeros.unlike_steps.Goals as goal

pub returns-in-Name-Number : goal.returns-in-Name-Number
returns-in-Name-Number c own over =
    let there = c.in-Name-Number in
    rw (there.is-0, there.is-1)
    (name_apart c.args.width c.args.n own there.field-0-0 there.field-1-0 there.value there.field-0-1 c.requires.less
    (rw (there.is-0, there.is-1) at over) (c.if-is_other.ensures.below refl) (c.if-is_other.ensures.other refl))

pub returns-in-Number-Name : goal.returns-in-Number-Name
returns-in-Number-Name c own over =
    let there = c.in-Number-Name in
    rw (there.is-0, there.is-1)
    (number_apart c.args.width c.args.n own there.field-0-1 there.field-1-1 there.value there.field-0-0
    c.requires.less (rw (there.is-0, there.is-1) at over) (c.if-is_other-2.ensures.below refl)
    (c.if-is_other-2.ensures.other refl))
