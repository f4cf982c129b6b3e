use Rattle.std.proofs.Common.{rules, ◌∙◌, ◌%◌, ◌^◌, ap, refl}
use Rattle.std.specs.Prelude.{Ok}
use Rattle.std.proofs.lemmas.Int.{to_z-of_z}
use mir.Syntax.{w128}
use mir.Val.{SFits}
use Rattle.pickle_meaning.specs.Values.{IntegerLabel}
use Rattle.pickle_meaning.specs.Arithmetic.{brought_integer}
use Rattle.pickle_evaluation.proofs.Signed.{passed_product, product_fits, unsigned_product}
use Rattle.pickle_evaluation.proofs.integers.product.Goals as goal

pub returns-then-number-clause-is : goal.returns-then-number-clause-is
returns-then-number-clause-is c =
    let fits =
    product_fits c.args.x c.args.y (rw c.if-number.true at c.requires.left) (rw c.if-number.true at c.requires.right) in
    passed_product (brought_integer c.args.number) c.args.x c.args.y _ c.ranges.x c.ranges.y fits
    c.brought_integer.ensures.is

pub returns-clause-is : goal.returns-clause-is
returns-clause-is c =
    let whole = c.low_digits.ensures.is
    ∙ ap (λ n. n % 2 ^ c.args.number.width)
    (rw (to_z-of_z w128 c.args.x c.ranges.x, to_z-of_z w128 c.args.y c.ranges.y) refl) in
    let fits : SFits w128 c.from.result = search rules in
    let product = unsigned_product c.args.number c.args.x c.args.y c.low_digits.result c.if-number.false
    (rw c.if-number.false at c.requires.left) (rw c.if-number.false at c.requires.right) whole in
    ap (λ z. Ok (IntegerLabel z c.args.number)) (to_z-of_z w128 c.from.result fits ∙ c.from.ensures) ∙ product
