use Rattle.std.proofs.Common.{Err, subst}
use Rattle.pickle_types.specs.Table.{term_of}
use Rattle.pickle_meaning.specs.Evaluation.{evaluation}
use Rattle.pickle_evaluation.specs.declared.operand.Unvalued.{Unvalued}
use Rattle.pickle_evaluation.specs.Comes.{Seen}
use Rattle.value_store.specs.Slots.{levels}
use Rattle.pickle_map.proofs.mapper.clauses.evaluate.Goals as goal

pub returns-in-Err-Limit-clause-is : goal.returns-in-Err-Limit-clause-is
returns-in-Err-Limit-clause-is c nodes =
    subst (λ (why : Unvalued). Seen c.args.meter.now.limit c.args.meter.now.steps c.look.new.meter.steps (Err why)
    (evaluation (term_of c.args.e.now) (levels nodes c.args.store.now)))
    c.in-Err-Limit.field-0-is (c.in-Err-Limit.ensures.is nodes)
