use Rattle.std.proofs.Common.{◌≡◌, ◌∙◌, ◌≤◌, length, take, get_or, subst, arith}
use Rattle.pickle_meaning.specs.Values.{members_of, member_count}
use Rattle.value_store.specs.Owners.{owner_of}
use Rattle.value_store.specs.Refs.{value_shown}
use Rattle.value_text.specs.CharTexts.{chars_in, trimmed}
use Rattle.value_text.specs.Escaped.{escape_of}
use Rattle.value_text.specs.TypedValue.{value_in, mapped_in}
use Rattle.value_text.proofs.CharTexts.{chars_count, chars_next, chars_end}
use Rattle.value_text.proofs.Puts.{told_next, told_all, told_failed}
use Rattle.value_text.proofs.print.printer.Printer.put_chars.Goals as goal

pub returns-then-self : goal.returns-then-self
returns-then-self g c = told_failed c.if-self.true c.loop-place.invariant

pub loop-place-preserved : goal.loop-place-preserved
loop-place-preserved g c =
    let own : owner_of c.members-elements.result ≡ value_in c.args.array.now =
    c.members-elements.ensures ∙ c.value-value.ensures in
    let bytes = chars_in (members_of (mapped_in c.args.array.now)) in
    let n = c.trimmed_len-place-end.result in
    let i = c.loop-place.place in
    let text : take n bytes ≡ trimmed bytes =
    subst (λ o. take n (chars_in (members_of (value_shown o))) ≡ trimmed (chars_in (members_of (value_shown o)))) own
    c.trimmed_len-place-end.ensures.text in
    let most : n ≤ member_count (members_of (mapped_in c.args.array.now)) =
    subst (λ o. n ≤ member_count (members_of (value_shown o))) own c.trimmed_len-place-end.ensures.most in
    let le : n ≤ length bytes = omega (arith, most, chars_count (members_of (mapped_in c.args.array.now))) in
    let byte : c.char_at.result ≡ get_or bytes i 0 =
    subst (λ o. c.char_at.result ≡ get_or (chars_in (members_of (value_shown o))) i 0) own c.char_at.ensures in
    told_next (chars_next (escape_of c.args.escapes) bytes (trimmed bytes) n i text le c.loop-place-test.true)
    c.loop-place.invariant (rw byte at c.put_spelled.ensures)

pub returns : goal.returns
returns g c =
    let own : owner_of c.members-elements.result ≡ value_in c.args.array.now =
    c.members-elements.ensures ∙ c.value-value.ensures in
    let bytes = chars_in (members_of (mapped_in c.args.array.now)) in
    let n = c.trimmed_len-place-end.result in
    let text : take n bytes ≡ trimmed bytes =
    subst (λ o. take n (chars_in (members_of (value_shown o))) ≡ trimmed (chars_in (members_of (value_shown o)))) own
    c.trimmed_len-place-end.ensures.text in
    let most : n ≤ member_count (members_of (mapped_in c.args.array.now)) =
    subst (λ o. n ≤ member_count (members_of (value_shown o))) own c.trimmed_len-place-end.ensures.most in
    let le : n ≤ length bytes = omega (arith, most, chars_count (members_of (mapped_in c.args.array.now))) in
    told_all (chars_end (escape_of c.args.escapes) bytes (trimmed bytes) n c.loop-place.place text le
    (omega (arith, c.loop-place-test.false))) c.loop-place.invariant
