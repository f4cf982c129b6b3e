use Rattle.std.proofs.Common.{◌≡◌, ◌∙◌, ap, sym, arith, subst}
use Rattle.std.specs.Option.{option_map}
use Rattle.pickle_meaning.specs.Values.{members_of, member_at, member_count}
use Rattle.value_text.specs.TypedValue.{typed_shown}
use Rattle.value_text.proofs.LeafTexts.{present_by, absent_by, none_from}
use Rattle.value_text.proofs.print.lines.any_present.Goals as goal

pub returns-then-is_some : goal.returns-then-is_some
returns-then-is_some c =
    let len : c.len-place-end.result ≡ member_count (members_of (typed_shown c.args.value.now)) =
    c.len-place-end.ensures ∙ ap (λ v. member_count (members_of (typed_shown v))) c.new-members.ensures in
    let all = members_of (typed_shown c.args.value.now) in
    let i = c.loop-place.place in
    let member = subst (λ v. option_map typed_shown c.get.result ≡ member_at (members_of (typed_shown v)) i)
    c.new-members.ensures c.get.ensures.member in
    sym (present_by typed_shown all i c.get.result (omega (arith, len, c.loop-place-test.true)) member
    (sym c.is_some.ensures ∙ c.if-is_some.true))
    ∙ c.loop-place.invariant

pub loop-place-preserved : goal.loop-place-preserved
loop-place-preserved c =
    let len : c.len-place-end.result ≡ member_count (members_of (typed_shown c.args.value.now)) =
    c.len-place-end.ensures ∙ ap (λ v. member_count (members_of (typed_shown v))) c.new-members.ensures in
    let all = members_of (typed_shown c.args.value.now) in
    let i = c.loop-place.place in
    let member = subst (λ v. option_map typed_shown c.get.result ≡ member_at (members_of (typed_shown v)) i)
    c.new-members.ensures c.get.ensures.member in
    sym (absent_by typed_shown all i c.get.result (omega (arith, len, c.loop-place-test.true)) member
    (sym c.is_some.ensures ∙ c.if-is_some.false))
    ∙ c.loop-place.invariant

pub returns : goal.returns
returns c =
    let len : c.len-place-end.result ≡ member_count (members_of (typed_shown c.args.value.now)) =
    c.len-place-end.ensures ∙ ap (λ v. member_count (members_of (typed_shown v))) c.new-members.ensures in
    sym (none_from (members_of (typed_shown c.args.value.now)) c.loop-place.place
    (omega (arith, len, c.loop-place-test.false)))
    ∙ c.loop-place.invariant
