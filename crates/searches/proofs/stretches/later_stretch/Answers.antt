use Rattle.std.proofs.Common.{◌-◌, arith}
use Rattle.first_numbers.proofs.Screened.{below_ceil}
use Rattle.searches.proofs.stretches.later_stretch.Goals as goal

pub returns-clause-before : goal.returns-clause-before
returns-clause-before c k lt =
    let less = below_ceil (c.args.place - c.args.start) c.args.step k c.requires.step
    (omega (arith, lt, c.div_ceil.ensures)) in
    omega (arith, less, c.requires.later)
