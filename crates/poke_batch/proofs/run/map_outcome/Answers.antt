use Rattle.run_parts.proofs.Sayings.{ends_more}
use Rattle.poke_batch.specs.RunsUnder.{is_run}
use Rattle.poke_batch.proofs.Unresolved.{ends_unresolved}
use Rattle.poke_batch.proofs.run.map_outcome.Goals as goal

pub returns-in-Err-clause-ends : goal.returns-in-Err-clause-ends
returns-in-Err-clause-ends g c =
    ends_unresolved c.args.pickle.now c.args.ask.now c.args.terms.now _ _ _ c.in-Err.outcome c.in-Err.ensures.none

pub returns-clause-ends : goal.returns-clause-ends
returns-clause-ends g c = ends_more (λ saying under. is_run c.in-Ok.ensures.asked c.in-Ok.ensures.possible under)
    (c.map_new.ensures.ends c.args.pickle.now c.in-Ok.ensures.asked)
