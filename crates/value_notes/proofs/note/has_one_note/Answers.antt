use Rattle.value_notes.proofs.NoteLaws.{one_note}
use Rattle.value_notes.proofs.note.has_one_note.Goals as goal

pub returns : goal.returns
returns c = record { law = one_note }
