use Rattle.std.proofs.Common.{Ok, Err, Result, subst, refl}
use Rattle.std.proofs.lemmas.Result.{err_from_is_err_and}
use Rattle.pickle_evaluation.specs.declared.operand.Operand.{Operand as Computing}
use Rattle.pickle_evaluation.specs.declared.operand.Operand.TheVariants as computing
use Rattle.pickle_evaluation.specs.declared.operand.Unvalued.{Unvalued}
use Rattle.pickle_evaluation.specs.declared.operand.Unvalued.TheVariants.{Fault}
use Rattle.pickle_evaluation.specs.Operands.{operand_of, Evaluated}
use Rattle.pickle_meaning.specs.Evaluation.{operand_label, as_common, gives}
use Rattle.pickle_evaluation.proofs.Evaluations.{first_stops, goes_on, computes, faults}
use Rattle.pickle_evaluation.proofs.expression.chosen.Goals as goal

pub returns-in_err-side-clause-is : goal.returns-in_err-side-clause-is
returns-in_err-side-clause-is c nodes limit before after a held =
    let p = err_from_is_err_and c.from_residual.result c.from_residual.ensures.1 in
    rw (p.1, p.2) (first_stops nodes limit before after c.in_err-side.field-0.0 a
    (λ z. gives (as_common c.args.common.now (operand_label z)))
    (subst (λ (r : Result Computing Unvalued). Evaluated nodes limit before after r a) c.in_err-side.was held))

pub returns-in_err-as_common-clause-is :
    goal.returns-in_err-as_common-clause-is
returns-in_err-as_common-clause-is c nodes limit before after a held =
    let p = err_from_is_err_and c.from_residual-in_err-as_common.result c.from_residual-in_err-as_common.ensures.1 in
    rw (p.1, p.2) (goes_on nodes limit before after after c.in_ok-side.field-0
    (Err (Fault c.in_err-as_common.field-0.0)) a (λ z. gives (as_common c.args.common.now (operand_label z)))
    (subst (λ (r : Result Computing Unvalued). Evaluated nodes limit before after r a) c.in_ok-side.was held)
    (faults nodes limit after after c.in_err-as_common.field-0.0
    (as_common c.args.common.now (operand_label (operand_of nodes c.in_ok-side.field-0))) refl
    (c.in_err-as_common.ensures.is (operand_label (operand_of nodes c.in_ok-side.field-0))
    (c.seen.ensures.held nodes))))

pub returns-clause-is : goal.returns-clause-is
returns-clause-is c nodes limit before after a held =
    goes_on nodes limit before after after c.in_ok-side.field-0 (Ok (computing.Scalar c.in_ok-as_common.field-0)) a
    (λ z. gives (as_common c.args.common.now (operand_label z)))
    (subst (λ (r : Result Computing Unvalued). Evaluated nodes limit before after r a) c.in_ok-side.was held)
    (computes nodes limit after after c.in_ok-as_common.field-0
    (as_common c.args.common.now (operand_label (operand_of nodes c.in_ok-side.field-0))) refl
    (c.in_ok-as_common.ensures.is (operand_label (operand_of nodes c.in_ok-side.field-0)) (c.seen.ensures.held nodes)))
