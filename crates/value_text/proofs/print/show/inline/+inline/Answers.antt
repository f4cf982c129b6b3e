use Rattle.std.proofs.Common.{arith, ◌<◌, ◌∙◌, sym}
use Rattle.pickle_meaning.specs.Values.{members_of, member_count}
use Rattle.value_store.specs.Refs.{value_shown}
use Rattle.value_text.proofs.ShowLines.{are_inline_at, are_inline_end}
use Rattle.value_text.proofs.print.show.inline.+inline.Goals as goal

pub are_inline-loop-place-preserved : goal.are_inline-loop-place-preserved
are_inline-loop-place-preserved t c =
    let all = members_of (value_shown c.args.value) in
    let lt : c.loop-place.place < member_count all = omega (arith, c.len-place-end.ensures, c.loop-place-test.true) in
    c.loop-place.invariant
    ∙ rw (sym c.is_inline_at.ensures ∙ c.if-not-is_inline_at.false) at (are_inline_at all c.loop-place.place lt)

pub are_inline-returns : goal.are_inline-returns
are_inline-returns t c =
    let all = members_of (value_shown c.args.value) in
    sym (c.loop-place.invariant
    ∙ are_inline_end all c.loop-place.place (omega (arith, c.len-place-end.ensures, c.loop-place-test.false)))

pub are_inline-returns-then-not-is_inline_at : goal.are_inline-returns-then-not-is_inline_at
are_inline-returns-then-not-is_inline_at t c =
    let all = members_of (value_shown c.args.value) in
    let lt : c.loop-place.place < member_count all = omega (arith, c.len-place-end.ensures, c.loop-place-test.true) in
    sym (c.loop-place.invariant
    ∙ rw (sym c.is_inline_at.ensures ∙ c.if-not-is_inline_at.true) at (are_inline_at all c.loop-place.place lt))
