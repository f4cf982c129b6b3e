use Rattle.std.proofs.Common.{rules, refl, pos}
use Rattle.std.proofs.lemmas.Int.{to_z-of_z}
use mir.Syntax.{w128}
use mir.Val.{SFits}
use Rattle.pickle_meaning.specs.Evaluation.{Plain, evaluation}
use Rattle.pickle_meaning.specs.Values.{IntegerLabel}
use Rattle.pickle_evaluation.proofs.comparison.leaf.Goals as goal

pub returns-in-Number-clause-is : goal.returns-in-Number-clause-is
unfolding evaluation
returns-in-Number-clause-is c nodes =
    let fits : SFits w128 c.from.result = search rules in
    rw (c.in-Number.is, to_z-of_z w128 c.from.result fits, c.from.ensures)
    (Plain (IntegerLabel (pos c.in-Number.value) c.in-Number.of), refl, refl, refl)
