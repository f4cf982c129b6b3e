use Rattle.std.proofs.lemmas.Result.{err_from_is_err_and}
use Rattle.pickle_types.specs.Table.{term_of}
use Rattle.pickle_meaning.specs.Evaluation.{evaluation}
use Rattle.pickle_meaning.specs.Clauses.{behind_start}
use Rattle.pickle_map.proofs.Settling.{seen_stops, seen_ends}
use Rattle.value_store.specs.Slots.{levels}
use Rattle.pickle_map.proofs.mapper.clauses.evaluate_label.Goals as goal

pub returns-in_err-evaluate-clause-is : goal.returns-in_err-evaluate-clause-is
returns-in_err-evaluate-clause-is c nodes =
    let p = err_from_is_err_and c.from_residual.result c.from_residual.ensures.1 in
    rw (p.1, p.2) (seen_stops c.args.meter.now.limit c.args.meter.now.steps c.evaluate.new.meter.steps c.args.start
    c.in_err-evaluate.field-0.0 (evaluation (term_of c.args.e.now) (levels nodes c.args.store.now))
    (behind_start c.args.start) (c.in_err-evaluate.ensures.is nodes))

pub returns-clause-is : goal.returns-clause-is
returns-clause-is c nodes =
    seen_ends c.args.meter.now.limit c.args.meter.now.steps c.evaluate.new.meter.steps c.args.start
    c.in_ok-evaluate.field-0
    c.behind_start.result (evaluation (term_of c.args.e.now) (levels nodes c.args.store.now))
    (behind_start c.args.start) (c.in_ok-evaluate.ensures.is nodes) c.behind_start.ensures
