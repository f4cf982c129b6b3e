-- The text so far is that of notes.
use Rattle.pickle_warnings.specs.Warnings.{AreNotes}
use Rattle.pickle_warnings.proofs.notes_text.Given as goal

abbrev pub invariant-loop-note : goal.invariant-loop-note
invariant-loop-note l = AreNotes l.pickle l.called l.text.items
