use Rattle.std.proofs.Common.{◌≡◌, Some, None, ◌∙◌, ap, sym, subst}
use Rattle.pickle_meaning.specs.Values.{members_of, member_at}
use Rattle.value_store.specs.Refs.{value_shown}
use Rattle.value_text.specs.CharTexts.{char_if}
use Rattle.value_text.proofs.ShowChars.{chars_at}
use Rattle.value_text.proofs.print.show.text.char_at.Goals as goal

pub returns-in-Some : goal.returns-in-Some
returns-in-Some c =
    let is : Some (value_shown c.in-Some.element) ≡ member_at (members_of (value_shown c.args.value)) c.args.place =
    subst (λ v. Some (value_shown c.in-Some.element) ≡ member_at (members_of (value_shown v)) c.args.place)
    c.members.ensures c.in-Some.ensures.member in
    c.char_of.ensures ∙ sym (chars_at (members_of (value_shown c.args.value)) c.args.place ∙ ap char_if (sym is))

pub returns-in-None : goal.returns-in-None
returns-in-None c =
    let is : None ≡ member_at (members_of (value_shown c.args.value)) c.args.place =
    subst (λ v. None ≡ member_at (members_of (value_shown v)) c.args.place) c.members.ensures
    c.in-None.ensures.member in
    sym (chars_at (members_of (value_shown c.args.value)) c.args.place ∙ ap char_if (sym is))
