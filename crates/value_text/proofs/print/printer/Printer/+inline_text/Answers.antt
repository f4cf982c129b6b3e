use Rattle.std.proofs.Common.{◌≡◌, arith, subst, Some, None}
use Rattle.pickle_meaning.specs.Values.{label_of, members_of, member_at, member_count}
use Rattle.value_store.specs.Refs.{value_shown}
use Rattle.value_text.proofs.Puts.{told_next, told_same, told_all, told_failed}
use Rattle.value_text.proofs.ShowLines.{inline_present, inline_absent, inline_end}
use Rattle.value_text.proofs.print.printer.Printer.+inline_text.Goals.{put_inline_members-in-Some, put_inline_members-in_default}
use Rattle.value_text.proofs.print.printer.Printer.+inline_text.Goals as goal

pub put_inline_members-loop-place-preserved : goal.put_inline_members-loop-place-preserved
put_inline_members-loop-place-preserved g t c =
    let len : c.len-place-end.result ≡ member_count (members_of (value_shown c.args.value)) =
    subst (λ v. c.len-place-end.result ≡ member_count (members_of (value_shown v))) c.members-members.ensures
    c.len-place-end.ensures in
    let all = members_of (value_shown c.args.value) in
    let i = c.loop-place.place in
    elim c.match-get.branch [
      | put_inline_members-in-Some w ↦
          (let is : Some (value_shown w.in-Some.member) ≡ member_at all i =
          subst (λ v. Some (value_shown w.in-Some.member) ≡ member_at (members_of (value_shown v)) i)
          c.members-members.ensures w.in-Some.ensures.member in
          rw (w.self-is, w.first-is) (told_next (inline_present c.args.look (label_of (value_shown c.args.value)) all i
          c.loop-place.first _ (omega (arith, len, c.loop-place-test.true)) is)
          c.loop-place.invariant (rw w.field_name.ensures at w.put_inline_part.ensures)))
      | put_inline_members-in_default w ↦
          rw (w.self-is, w.first-is) (told_same (inline_absent c.args.look (label_of (value_shown c.args.value)) all i
          c.loop-place.first (omega (arith, len, c.loop-place-test.true)) (subst
          (λ v. None ≡ member_at (members_of (value_shown v)) i) c.members-members.ensures w.in_default.ensures.member))
          c.loop-place.invariant)
    ]

pub put_inline_members-returns : goal.put_inline_members-returns
put_inline_members-returns g t c =
    let len : c.len-place-end.result ≡ member_count (members_of (value_shown c.args.value)) =
    subst (λ v. c.len-place-end.result ≡ member_count (members_of (value_shown v))) c.members-members.ensures
    c.len-place-end.ensures in
    told_all (inline_end c.args.look (label_of (value_shown c.args.value)) (members_of (value_shown c.args.value))
    c.loop-place.place c.loop-place.first (omega (arith, len, c.loop-place-test.false))) c.loop-place.invariant

pub put_inline_members-returns-then-self : goal.put_inline_members-returns-then-self
put_inline_members-returns-then-self g t c = told_failed c.if-self.true c.loop-place.invariant
