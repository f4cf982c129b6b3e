use Rattle.std.proofs.Common.{Bool, Result, Err, ap, ◌∙◌, subst}
use Rattle.pickle_types.specs.Table.{term_of}
use Rattle.pickle_meaning.specs.declared.faults.MapFaultKind.{MapFaultKind}
use Rattle.pickle_meaning.specs.Clauses.{kind_at}
use Rattle.pickle_meaning.specs.Evaluation.{evaluation}
use Rattle.pickle_evaluation.specs.declared.operand.Unvalued.{Unvalued}
use Rattle.pickle_evaluation.specs.Comes.{TruthSeen}
use Rattle.pickle_map.proofs.Settling.{seen_truth}
use Rattle.value_store.specs.Slots.{levels}
use Rattle.pickle_map.proofs.mapper.clauses.expression_truth.Goals as goal

pub returns-in-Ok-Ok-clause-is : goal.returns-in-Ok-Ok-clause-is
returns-in-Ok-Ok-clause-is c nodes =
    let h = seen_truth c.args.meter.now.limit c.args.meter.now.steps c.evaluate_truth.new.meter.steps c.args.place
    c.in-Ok-Ok.field-0 (evaluation (term_of c.args.e.now) (levels nodes c.args.store.now))
    (c.in-Ok-Ok.ensures.is nodes) in
    (h.0 ∙ ap (λ (t : Result Bool MapFaultKind). kind_at c.args.place t) c.in-Ok-Ok.field-0-is, h.1)

pub returns-in-Err-Limit-clause-is : goal.returns-in-Err-Limit-clause-is
returns-in-Err-Limit-clause-is c nodes =
    subst (λ (why : Unvalued). TruthSeen c.args.meter.now.limit c.args.meter.now.steps
    c.evaluate_truth.new.meter.steps (Err why) (evaluation (term_of c.args.e.now) (levels nodes c.args.store.now)))
    c.in-Err-Limit.field-0-is (c.in-Err-Limit.ensures.is nodes)
