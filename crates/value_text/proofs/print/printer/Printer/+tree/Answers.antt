use Rattle.std.proofs.Common.{◌≡◌, ◌∙◌, ◌+◌, ◌<◌, ap, sym, arith, Some, false}
use Rattle.pickle_meaning.specs.Values.{label_of, members_of, member_at, member_count}
use Rattle.value_text.specs.TypedValue.{typed_shown}
use Rattle.value_text.specs.CutArrays.{limit_of, is_past, kept_count}
use Rattle.value_text.proofs.Cuts.{kept_before, kept_within}
use Rattle.value_text.proofs.Puts.{told_none, told_next, told_same, told_last, told_failed}
use Rattle.value_text.proofs.LineTexts.{lines_present, lines_absent, lines_left}
use Rattle.value_text.proofs.print.printer.Printer.+tree.Goals.{put_parts-in-Some, put_parts-in_default}
use Rattle.value_text.proofs.print.printer.Printer.+tree.Goals as goal

pub put_parts-loop-place-preserved : goal.put_parts-loop-place-preserved
put_parts-loop-place-preserved g t c =
    let all = members_of (typed_shown c.args.value.now) in
    let label = label_of (typed_shown c.args.value.now) in
    let limit = limit_of c.args.style.now label in
    let len : c.len-count.result ≡ member_count all =
    c.len-count.ensures ∙ ap (λ v. member_count (members_of (typed_shown v))) c.new-parts.ensures in
    let kept : c.kept_count-kept.result ≡ kept_count limit (member_count all) =
    c.kept_count-kept.ensures.is ∙ ap (λ most. kept_count most c.len-count.result) c.limit_of.ensures
    ∙ ap (kept_count limit) len in
    let i = c.loop-place.place in
    let before : is_past limit i ≡ false =
    kept_before limit (member_count all) i (omega (arith, kept, c.loop-place-test.true)) in
    let lt : i < member_count all = omega (arith, kept, kept_within limit (member_count all), c.loop-place-test.true) in
    elim c.match-get.branch [
      | put_parts-in-Some w ↦
          (let is : Some (typed_shown w.in-Some.part) ≡ member_at all i =
          w.in-Some.ensures.member ∙ ap (λ v. member_at (members_of (typed_shown v)) i) c.new-parts.ensures in
          rw w.self-is (record {
            within = omega (arith, kept, c.loop-place-test.true);
            told = told_next (lines_present c.args.style.now limit (c.args.level + 1) label all i _ lt before is)
                c.loop-place.invariant.told w.put_part.ensures;
          }))
      | put_parts-in_default w ↦
          rw w.self-is (record {
            within = omega (arith, kept, c.loop-place-test.true);
            told = told_same (lines_absent c.args.style.now limit (c.args.level + 1) label all i lt before
                (w.in_default.ensures.member ∙ ap (λ v. member_at (members_of (typed_shown v)) i) c.new-parts.ensures))
                c.loop-place.invariant.told;
          })
    ]

pub put_parts-returns : goal.put_parts-returns
put_parts-returns g t c =
    let all = members_of (typed_shown c.args.value.now) in
    let label = label_of (typed_shown c.args.value.now) in
    let limit = limit_of c.args.style.now label in
    let len : c.len-count.result ≡ member_count all =
    c.len-count.ensures ∙ ap (λ v. member_count (members_of (typed_shown v))) c.new-parts.ensures in
    let kept : c.kept_count-kept.result ≡ kept_count limit (member_count all) =
    c.kept_count-kept.ensures.is ∙ ap (λ most. kept_count most c.len-count.result) c.limit_of.ensures
    ∙ ap (kept_count limit) len in
    let end : c.loop-place.place ≡ kept_count limit (member_count all) =
    omega (arith, kept, c.loop-place.invariant.within, c.loop-place-test.false) in
    told_last (told_same (lines_left c.args.style.now limit (c.args.level + 1) label all c.loop-place.place end)
    c.loop-place.invariant.told) (rw (end, sym kept, sym len) c.put_left_line.ensures)

pub put_parts-returns-then-self : goal.put_parts-returns-then-self
put_parts-returns-then-self g t c = told_failed c.if-self.true c.loop-place.invariant.told

pub put_parts-loop-place-init : goal.put_parts-loop-place-init
put_parts-loop-place-init g t c = record { within = omega arith; told = told_none }
