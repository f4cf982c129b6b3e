use Rattle.std.proofs.Common.{rules, ◌≡◌, sym, ap, ◌∙◌, subst}
use Rattle.std.proofs.lemmas.Result.{err_from_is_err_and}
use Rattle.std.proofs.lemmas.Int.{to_z-of_z}
use mir.Syntax.{w128}
use mir.Val.{SFits}
use Rattle.pickle_evaluation.specs.declared.operand.Operand.TheVariants as computing
use Rattle.pickle_evaluation.specs.declared.content.Content.{Content}
use Rattle.pickle_evaluation.specs.declared.content.Content.TheVariants as content
use Rattle.value_store.specs.declared.scalar.Scalar.TheVariants as scalar
use Rattle.pickle_evaluation.specs.Contents.{IsHeld}
use Rattle.pickle_meaning.specs.Values.{IntegerLabel}
use Rattle.value_store.specs.Refs.{value_of}
use Rattle.pickle_meaning.specs.Evaluation.{AtPath, element, leads_to}
use Rattle.pickle_evaluation.proofs.expression.element.Goals as goal

pub returns-in_err-element-in-Value-Scalar-Integer-clause-is :
    goal.returns-in_err-element-in-Value-Scalar-Integer-clause-is
returns-in_err-element-in-Value-Scalar-Integer-clause-is c nodes x held =
    let p = err_from_is_err_and c.from_residual.result c.from_residual.ensures.1 in
    let fits : SFits w128 c.in-Value-Scalar-Integer.i = search rules in
    let a : c.args.p ≡ computing.Value c.in-Value-Scalar-Integer.value = cc in
    let b : c.args.n ≡ content.Scalar (scalar.Integer c.in-Value-Scalar-Integer.i c.in-Value-Scalar-Integer._number) =
    cc in
    let h : x ≡ IntegerLabel c.in-Value-Scalar-Integer.i c.in-Value-Scalar-Integer._number =
    subst (λ (n : Content). IsHeld n x) b held in
    rw (p.1, p.2, a, h)
    (ap (λ r. (leads_to r).outcome) (ap (λ i. element (AtPath (value_of nodes c.in-Value-Scalar-Integer.value))
    (IntegerLabel i c.in-Value-Scalar-Integer._number)) (sym (to_z-of_z w128 c.in-Value-Scalar-Integer.i fits))
    ∙ sym (c.in_err-element-in-Value-Scalar-Integer.ensures nodes c.in-Value-Scalar-Integer._number)))

pub returns-in_ok-element-in-Value-Scalar-Integer-clause-is :
    goal.returns-in_ok-element-in-Value-Scalar-Integer-clause-is
returns-in_ok-element-in-Value-Scalar-Integer-clause-is c nodes x held =
    let fits : SFits w128 c.in-Value-Scalar-Integer.i = search rules in
    let a : c.args.p ≡ computing.Value c.in-Value-Scalar-Integer.value = cc in
    let b : c.args.n ≡ content.Scalar (scalar.Integer c.in-Value-Scalar-Integer.i c.in-Value-Scalar-Integer._number) =
    cc in
    let h : x ≡ IntegerLabel c.in-Value-Scalar-Integer.i c.in-Value-Scalar-Integer._number =
    subst (λ (n : Content). IsHeld n x) b held in
    rw (a, h)
    (ap (λ r. (leads_to r).outcome) (ap (λ i. element (AtPath (value_of nodes c.in-Value-Scalar-Integer.value))
    (IntegerLabel i c.in-Value-Scalar-Integer._number)) (sym (to_z-of_z w128 c.in-Value-Scalar-Integer.i fits))
    ∙ sym (c.in_ok-element-in-Value-Scalar-Integer.ensures nodes c.in-Value-Scalar-Integer._number)))
