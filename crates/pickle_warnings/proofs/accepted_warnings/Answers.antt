use Rattle.std.proofs.Common.{◌∙◌, ap}
use Rattle.pickle_warnings.proofs.Notes.{called_is, notes_if}
use Rattle.pickle_warnings.proofs.accepted_warnings.Goals as goal

pub returns : goal.returns
returns c =
    notes_if c.args.pickle.now c.args.path.now (called_is c.args.path.now
    (c.as_slice.ensures.value ∙ ap (λ v. v.items) c.into_bytes-called.ensures) c.in_ok-show.ensures.shown c.new.ensures)
    (λ v. v.items) c.notes_text.result c.notes_text.ensures
