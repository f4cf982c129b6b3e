use Rattle.std.proofs.Common.{◌∙◌, sym}
use Rattle.pickle_meaning.specs.Values.{members_of, member_at}
use Rattle.value_store.specs.Owners.{owner_of}
use Rattle.value_store.specs.Refs.{value_shown}
use Rattle.value_text.proofs.CharTexts.{chars_at, char_numbered, char_none}
use Rattle.csv_text.proofs.chars.char_at.Goals as goal

pub returns-in-Some : goal.returns-in-Some
returns-in-Some c =
    let all = members_of (value_shown (owner_of c.args.elements)) in
    c.char_of.ensures
    ∙ sym (char_numbered (member_at all c.args.place) c.in-Some.number c.in-Some.ensures)
    ∙ sym (chars_at all c.args.place)

pub returns-in-None : goal.returns-in-None
returns-in-None c =
    let all = members_of (value_shown (owner_of c.args.elements)) in
    sym (char_none (member_at all c.args.place) c.in-None.ensures) ∙ sym (chars_at all c.args.place)
