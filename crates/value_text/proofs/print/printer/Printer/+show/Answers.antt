use Rattle.std.proofs.Common.{◌≡◌, ◌+◌, ◌<◌, ◌≤◌, ◌∙◌, subst, Some, None}
use Rattle.pickle_meaning.specs.Values.{label_of, members_of, member_at, member_count}
use Rattle.value_store.specs.Owners.{owner_of}
use Rattle.value_store.specs.Refs.{value_shown}
use Rattle.value_text.specs.TypedValue.{value_in, node_in, mapped_in}
use Rattle.value_text.specs.ShowText.{cut_of, at_most}
use Rattle.value_text.specs.ShowParts.{view_at}
use Rattle.value_text.proofs.Puts.{told_next, told_same, told_all, told_failed}
use Rattle.value_text.proofs.ShowLines.{parts_present, parts_absent, parts_end}
use Rattle.value_text.proofs.print.printer.Printer.+show.Goals.{put_shown_parts-in-Some, put_shown_parts-in_default}
use Rattle.value_text.proofs.print.printer.Printer.+show.Goals as goal

pub put_shown_parts-loop-place-preserved : goal.put_shown_parts-loop-place-preserved
put_shown_parts-loop-place-preserved g t c =
    let view = view_at c.args.sight c.args.value in
    let label = label_of (mapped_in c.args.value) in
    let all = members_of (mapped_in c.args.value) in
    let i = c.loop-place.place in
    let owner : owner_of c.members-parts.result ≡ value_in c.args.value = c.members-parts.ensures ∙ c.value.ensures in
    let count : c.part_count-place-end.result ≡ at_most (cut_of view.look.elements label) (member_count all) =
    subst (λ v. c.part_count-place-end.result
    ≡ at_most (cut_of view.look.elements (label_of (value_shown v))) (member_count (members_of (value_shown v))))
    c.value-2.ensures c.part_count-place-end.ensures in
    let here : i < at_most (cut_of view.look.elements label) (member_count all) =
    subst (λ n. i < n) count c.loop-place-test.true in
    elim c.match-get.branch [
      | put_shown_parts-in-Some w ↦
          (let is : Some (value_shown w.in-Some.part) ≡ member_at all i =
          subst (λ v. Some (value_shown w.in-Some.part) ≡ member_at (members_of (value_shown v)) i) owner
          w.in-Some.ensures.member in
          rw w.self-is (told_next (parts_present view (c.args.level + 1) (node_in c.args.value) label all i _ here is)
          c.loop-place.invariant w.put_shown_part.ensures))
      | put_shown_parts-in_default w ↦
          rw w.self-is (told_same (parts_absent view (c.args.level + 1) (node_in c.args.value) label all i here
          (subst (λ v. None ≡ member_at (members_of (value_shown v)) i) owner w.in_default.ensures.member))
          c.loop-place.invariant)
    ]

pub put_shown_parts-returns : goal.put_shown_parts-returns
put_shown_parts-returns g t c =
    let view = view_at c.args.sight c.args.value in
    let label = label_of (mapped_in c.args.value) in
    let all = members_of (mapped_in c.args.value) in
    let count : c.part_count-place-end.result ≡ at_most (cut_of view.look.elements label) (member_count all) =
    subst (λ v. c.part_count-place-end.result
    ≡ at_most (cut_of view.look.elements (label_of (value_shown v))) (member_count (members_of (value_shown v))))
    c.value-2.ensures c.part_count-place-end.ensures in
    told_all (parts_end view (c.args.level + 1) (node_in c.args.value) label all c.loop-place.place
    (subst (λ n. n ≤ c.loop-place.place) count c.loop-place-test.false)) c.loop-place.invariant

pub put_shown_parts-returns-then-self : goal.put_shown_parts-returns-then-self
put_shown_parts-returns-then-self g t c = told_failed c.if-self.true c.loop-place.invariant
