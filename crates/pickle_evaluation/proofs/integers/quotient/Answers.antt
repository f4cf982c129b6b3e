use Rattle.std.proofs.Common.{◌∙◌, ap, refl}
use Rattle.std.proofs.lemmas.Int.{quot_is}
use mir.Syntax.{w128}
use Rattle.pickle_meaning.specs.Arithmetic.{on_common, brought_integer}
use Rattle.pickle_evaluation.proofs.Signed.{zero_bits, some_bits, quotient_fits}
use Rattle.pickle_evaluation.proofs.integers.quotient.Goals as goal

pub returns-then-y-eq0-clause-is : goal.returns-then-y-eq0-clause-is
unfolding on_common
returns-then-y-eq0-clause-is c = rw (zero_bits c.args.y c.ranges.y c.if-y-eq0.true) refl

pub returns-clause-is : goal.returns-clause-is
unfolding on_common
returns-clause-is c =
    let fits = quotient_fits _ c.args.x c.args.y c.requires.left in
    rw (some_bits c.args.y c.if-y-eq0.false)
    (c.brought_integer.ensures.is
    ∙ ap (brought_integer c.args.number) (quot_is w128 c.args.x c.args.y c.ranges.x c.ranges.y fits))
