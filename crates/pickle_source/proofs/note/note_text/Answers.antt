use Rattle.std.proofs.Common.{rules}
use Rattle.pickle_source.proofs.Notes.{tells_place}
use Rattle.pickle_source.proofs.note.note_text.Goals as goal

pub returns : goal.returns
returns c =
    tells_place c.args.pickle.now c.args.called.now c.split_at.result.0.now c.in_ok-text.text.items _
    c.extend_from_slice.new.self.items _ _ _ _ (search rules)
    c.split_at.ensures.front c.place_behind-place.ensures.line c.place_behind-place.ensures.column c.in_ok-text.ensures
    c.in_ok-extend_from_slice.ensures.items
