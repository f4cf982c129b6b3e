use Rattle.std.proofs.Common.{◌++◌, ◌∙◌, ap}
use Rattle.pickle_warnings.proofs.Notes.{no_notes, one_more}
use Rattle.pickle_warnings.proofs.notes_text.Goals as goal

pub loop-note-init : goal.loop-note-init
loop-note-init c = no_notes c.args.pickle.now c.args.called.now c.new-text.ensures.items

pub loop-note-preserved : goal.loop-note-preserved
loop-note-preserved c =
    one_more c.args.pickle.now c.args.called.now (c.in_ok-extend_from_slice.ensures.items
    ∙ ap (λ note. c.loop-note.text.items ++ note) c.as_slice.ensures.value) c.loop-note.invariant c.in_ok-lines.ensures
