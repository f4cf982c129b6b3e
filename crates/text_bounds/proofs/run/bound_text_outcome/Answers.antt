use Rattle.text_bounds.proofs.Unresolved.{texts_unresolved}
use Rattle.text_bounds.proofs.run.bound_text_outcome.Goals as goal

pub returns-in-Err : goal.returns-in-Err
returns-in-Err g c =
    texts_unresolved c.args.pickle.now c.args.name.now c.args.texts _ c.in-Err.outcome c.in-Err.ensures.none

pub returns-in-Ok : goal.returns-in-Ok
returns-in-Ok g c = c.bound_found.ensures c.args.pickle.now c.args.name.now c.in-Ok.ensures.asked
