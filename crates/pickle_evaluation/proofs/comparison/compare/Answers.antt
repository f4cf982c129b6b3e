use Rattle.std.proofs.Common.{rules, ◌∙◌, ap, to_z, of_z}
use Rattle.std.proofs.lemmas.Int.{to_z-of_z}
use mir.Syntax.{w128}
use mir.Val.{SFits}
use Rattle.pickle_types.specs.Operators.{common}
use Rattle.pickle_meaning.specs.Arithmetic.{converted, on_common}
use Rattle.pickle_evaluation.proofs.Signed.{small_fits}
use Rattle.pickle_evaluation.proofs.Comparisons.{common_order}
use Rattle.pickle_evaluation.proofs.comparison.compare.Goals as goal

pub returns : goal.returns
returns c =
    let a = to_z-of_z w128 c.args.a.number (small_fits c.args.a.of.signed c.args.a.number c.requires.left.1) in
    let b = to_z-of_z w128 c.args.b.number (small_fits c.args.b.of.signed c.args.b.number c.requires.right.1) in
    let fx : SFits w128 c.convert-x.result = search rules in
    let fy : SFits w128 c.convert-y.result = search rules in
    let x =
    to_z-of_z w128 c.convert-x.result fx ∙ c.convert-x.ensures.is ∙ ap (converted c.common-number.result) a in
    let y =
    to_z-of_z w128 c.convert-y.result fy ∙ c.convert-y.ensures.is ∙ ap (converted c.common-number.result) b in
    let common_is = c.common-number.ensures.is in
    rw (common_order c.args.op c.args.a.number c.args.a.of c.args.b.number c.args.b.of c.requires.comparison)
    (c.in_order.ensures (common c.args.a.of c.args.b.of)
    ∙ ap (λ n. on_common c.args.op (common c.args.a.of c.args.b.of) n (to_z w128 (of_z w128 c.convert-y.result))) x
    ∙ ap
    (λ n. on_common c.args.op (common c.args.a.of c.args.b.of) (converted c.common-number.result c.args.a.number) n) y
    ∙ ap (λ t.
    on_common c.args.op (common c.args.a.of c.args.b.of) (converted t c.args.a.number) (converted t c.args.b.number))
    common_is)
