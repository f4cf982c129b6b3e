use Rattle.std.proofs.Common.{◌∙◌, ap}
use Rattle.pickle_reasons.proofs.Places.{called_is, told_if}
use Rattle.pickle_reasons.proofs.refusal_explanation.Goals as goal

pub returns : goal.returns
returns c =
    told_if c.args.pickle.now c.args.path.now (called_is c.args.path.now
    (c.as_slice.ensures.value ∙ ap (λ v. v.items) c.into_bytes-called.ensures) c.in_ok-show.ensures.shown c.new.ensures)
    (λ v. v.items) c.note_text.result c.note_text.ensures
