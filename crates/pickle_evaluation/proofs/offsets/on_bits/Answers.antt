use Rattle.std.proofs.Common.{◌∙◌, to_z, of_z, ap}
use Rattle.std.proofs.lemmas.Int.{to_z-of_z}
use mir.Syntax.{w128}
use Rattle.pickle_tree.specs.declared.tree.Infix.TheVariants.{Divide}
use Rattle.pickle_meaning.specs.Arithmetic.{on_bits}
use Rattle.pickle_evaluation.proofs.offsets.on_bits.Goals as goal

pub returns-in-Divide-clause-is : goal.returns-in-Divide-clause-is
returns-in-Divide-clause-is c =
    rw c.in-Divide.is
    (c.quotient_of_bits.ensures.is c.args.unit
    ∙ ap (λ x. on_bits Divide c.args.number c.args.unit x (to_z w128 (of_z w128 c.args.y)))
    (to_z-of_z w128 c.args.x c.ranges.x)
    ∙ ap (λ y. on_bits Divide c.args.number c.args.unit c.args.x y) (to_z-of_z w128 c.args.y c.ranges.y))
