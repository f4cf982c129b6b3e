use Rattle.std.proofs.Common.{arith, subst}
use Rattle.std.proofs.lemmas.Bool.{ltb-true}
use Rattle.pickle_types.specs.Table.{term_of}
use Rattle.first_numbers.specs.Held.{number_shown}
use Rattle.first_numbers.specs.Screens.{IsZeroWith}
use Rattle.first_numbers.proofs.Constants.{fails_so}
use Rattle.first_numbers.proofs.screen.fails_with.Goals as goal

pub returns-then-taken-steps : goal.returns-then-taken-steps
returns-then-taken-steps c few n less here =
    let x = c.args.x.now in
    let same = c.if-taken-steps.true in
    let below = ltb-true c.in-Some.taken 18446744073709551615 few in
    fails_so (number_shown x) c.args.index c.args.byte c.args.steps c.requires.plain
    (subst (λ steps. IsZeroWith (term_of x.constraint.now) x.numeral.number.width x.own c.args.index c.args.byte steps)
    same c.in-Some.ensures) (omega (arith, same, below)) n less here
