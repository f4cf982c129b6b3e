use Rattle.std.proofs.Common.{refl, arith}
use Rattle.std.proofs.lemmas.Result.{err_from_is_err_and}
use Rattle.pickle_types.specs.Table.{term_of}
use Rattle.pickle_meaning.specs.Evaluation.{evaluation}
use Rattle.pickle_meaning.specs.Clauses.{constraint}
use Rattle.pickle_map.proofs.Settling.{truth_stops, truth_satisfies}
use Rattle.value_store.specs.Slots.{levels}
use Rattle.pickle_map.proofs.mapper.clauses.check.Goals as goal

pub returns-in-None-clause-is : goal.returns-in-None-clause-is
unfolding constraint
returns-in-None-clause-is c nodes = rw c.in-None.is (refl, omega arith)

pub returns-in_err-find_truth-in-Some-clause-is : goal.returns-in_err-find_truth-in-Some-clause-is
unfolding constraint
returns-in_err-find_truth-in-Some-clause-is c nodes =
    let p = err_from_is_err_and c.from_residual.result c.from_residual.ensures.1 in
    rw (p.1, p.2, c.in-Some.is, ← c.deref.ensures)
    (truth_stops c.args.meter.now.limit c.args.meter.now.steps c.find_truth.new.meter.steps c.args.place
    c.in_err-find_truth-in-Some.field-0.0 (evaluation (term_of c.deref.result.now) (levels nodes c.args.store.now))
    (c.in_err-find_truth-in-Some.ensures.is nodes))

pub returns-in_ok-find_truth-in-Some-clause-is : goal.returns-in_ok-find_truth-in-Some-clause-is
unfolding constraint
returns-in_ok-find_truth-in-Some-clause-is c nodes =
    rw (c.in-Some.is, ← c.deref.ensures) (truth_satisfies c.args.meter.now.limit c.args.meter.now.steps
    c.find_truth.new.meter.steps c.args.place c.in_ok-find_truth-in-Some.field-0 c.fail_unless.result
    (evaluation (term_of c.deref.result.now) (levels nodes c.args.store.now))
    (c.in_ok-find_truth-in-Some.ensures.is nodes) c.fail_unless.ensures)
