use Rattle.pickle_warnings.proofs.Notes.{warned_if, silent_at}
use Rattle.pickle_warnings.proofs.warnings.Goals as goal

pub returns-in-Ok : goal.returns-in-Ok
returns-in-Ok c =
    warned_if _ _ c.in-Ok.ensures.ok.1 (λ v. v.items) c.accepted_warnings.result c.accepted_warnings.ensures

pub returns-in-Err : goal.returns-in-Err
returns-in-Err c = silent_at c.args.pickle.now c.args.path.now c.new.ensures.items
