use Rattle.std.proofs.Common.{sym}
use Rattle.std.proofs.lemmas.Result.{err_from_is_err_and}
use Rattle.pickle_types.specs.Table.{term_of}
use Rattle.pickle_meaning.specs.Evaluation.{evaluation, operand_label}
use Rattle.pickle_evaluation.proofs.TruthLaws.{unseen_truth}
use Rattle.value_store.specs.Slots.{levels}
use Rattle.pickle_evaluation.proofs.truths.looked_truth.Goals as goal

pub returns-in_err-look-clause-is : goal.returns-in_err-look-clause-is
returns-in_err-look-clause-is c nodes =
    let p = err_from_is_err_and c.from_residual.result c.from_residual.ensures.1 in
    rw (p.1, p.2) (unseen_truth c.args.meter.now.limit c.args.meter.now.steps c.look.new.meter.steps
    c.in_err-look.field-0.0 (evaluation (term_of c.args.e.now) (levels nodes c.args.store.now))
    (c.in_err-look.ensures.is nodes))

pub returns-clause-is : goal.returns-clause-is
returns-clause-is c nodes =
    let h = c.in_ok-look.ensures.is nodes in
    (h.0, h.1, sym (c.truth_of.ensures (operand_label h.0) h.2), h.3)
