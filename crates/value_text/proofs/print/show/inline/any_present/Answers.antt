use Rattle.std.proofs.Common.{◌≡◌, ◌∙◌, sym, arith, subst}
use Rattle.std.specs.Option.{option_map}
use Rattle.pickle_meaning.specs.Values.{members_of, member_at, member_count}
use Rattle.value_store.specs.Refs.{value_shown}
use Rattle.value_text.proofs.LeafTexts.{present_by, absent_by, none_from}
use Rattle.value_text.proofs.print.show.inline.any_present.Goals as goal

pub returns-then-is_some : goal.returns-then-is_some
returns-then-is_some c =
    let len : c.len-place-end.result ≡ member_count (members_of (value_shown c.args.value)) =
    subst (λ v. c.len-place-end.result ≡ member_count (members_of (value_shown v))) c.members-members.ensures
    c.len-place-end.ensures in
    let all = members_of (value_shown c.args.value) in
    let i = c.loop-place.place in
    let member = subst (λ v. option_map value_shown c.get.result ≡ member_at (members_of (value_shown v)) i)
    c.members-members.ensures c.get.ensures.member in
    sym (present_by value_shown all i c.get.result (omega (arith, len, c.loop-place-test.true)) member
    (sym c.is_some.ensures ∙ c.if-is_some.true))
    ∙ c.loop-place.invariant

pub loop-place-preserved : goal.loop-place-preserved
loop-place-preserved c =
    let len : c.len-place-end.result ≡ member_count (members_of (value_shown c.args.value)) =
    subst (λ v. c.len-place-end.result ≡ member_count (members_of (value_shown v))) c.members-members.ensures
    c.len-place-end.ensures in
    let all = members_of (value_shown c.args.value) in
    let i = c.loop-place.place in
    let member = subst (λ v. option_map value_shown c.get.result ≡ member_at (members_of (value_shown v)) i)
    c.members-members.ensures c.get.ensures.member in
    sym (absent_by value_shown all i c.get.result (omega (arith, len, c.loop-place-test.true)) member
    (sym c.is_some.ensures ∙ c.if-is_some.false))
    ∙ c.loop-place.invariant

pub returns : goal.returns
returns c =
    let len : c.len-place-end.result ≡ member_count (members_of (value_shown c.args.value)) =
    subst (λ v. c.len-place-end.result ≡ member_count (members_of (value_shown v))) c.members-members.ensures
    c.len-place-end.ensures in
    sym
    (none_from (members_of (value_shown c.args.value)) c.loop-place.place (omega (arith, len, c.loop-place-test.false)))
    ∙ c.loop-place.invariant
