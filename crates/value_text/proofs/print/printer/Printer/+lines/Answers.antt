use Rattle.std.proofs.Common.{◌≡◌, ◌∙◌, ◌<◌, ap, sym, arith, Some, false}
use Rattle.pickle_meaning.specs.Values.{label_of, members_of, member_at, member_count}
use Rattle.value_text.specs.TypedValue.{typed_shown}
use Rattle.value_text.specs.CutArrays.{limit_of, is_past, kept_count}
use Rattle.value_text.specs.Steps.{steps_of}
use Rattle.value_text.proofs.Cuts.{kept_before, kept_within}
use Rattle.value_text.proofs.Puts.{told_none, told_next, told_same, told_last, told_all, told_failed}
use Rattle.value_text.proofs.LeafTexts.{branches_present, branches_absent, branches_left, branches_end}
use Rattle.value_text.proofs.print.printer.Printer.+lines.Goals.{put_branches-in-Some, put_branches-in_default}
use Rattle.value_text.proofs.print.printer.Printer.+lines.Goals as goal

pub put_branches-loop-place-init : goal.put_branches-loop-place-init
put_branches-loop-place-init g t c = record { within = omega arith; told = told_none }

pub put_branches-loop-place-preserved : goal.put_branches-loop-place-preserved
put_branches-loop-place-preserved g t c =
    let owner = typed_shown c.args.value.now in
    let limit = limit_of c.args.style.now (label_of owner) in
    let len : c.len-count.result ≡ member_count (members_of owner) =
    c.len-count.ensures ∙ ap (λ v. member_count (members_of (typed_shown v))) c.new-parts.ensures in
    let kept : c.kept_count-kept.result ≡ kept_count limit (member_count (members_of owner)) =
    c.kept_count-kept.ensures.is ∙ ap (λ most. kept_count most c.len-count.result) c.limit_of.ensures
    ∙ ap (kept_count limit) len in
    let i = c.loop-place.place in
    let before : is_past limit i ≡ false =
    kept_before limit (member_count (members_of owner)) i (omega (arith, kept, c.loop-place-test.true)) in
    let lt : i < member_count (members_of owner) =
    omega (arith, kept, kept_within limit (member_count (members_of owner)), c.loop-place-test.true) in
    elim c.match-get.branch [
      | put_branches-in-Some w ↦
          (let is : Some (typed_shown w.in-Some.part) ≡ member_at (members_of owner) i =
          w.in-Some.ensures.member ∙ ap (λ v. member_at (members_of (typed_shown v)) i) c.new-parts.ensures in
          rw w.self-is (record {
            within = omega (arith, kept, c.loop-place-test.true);
            told = told_next (branches_present c.args.style.now limit (steps_of c.args.steps.now) owner i _ _ lt before
                is w.step_to.ensures) c.loop-place.invariant.told w.put_branch.ensures;
          }))
      | put_branches-in_default w ↦
          rw w.self-is (record {
            within = omega (arith, kept, c.loop-place-test.true);
            told = told_same (branches_absent c.args.style.now limit (steps_of c.args.steps.now) owner i lt before
                (w.in_default.ensures.member ∙ ap (λ v. member_at (members_of (typed_shown v)) i) c.new-parts.ensures))
                c.loop-place.invariant.told;
          })
    ]

pub put_branches-returns-then-self : goal.put_branches-returns-then-self
put_branches-returns-then-self g t c = told_failed c.if-self.true c.loop-place.invariant.told

pub put_branches-returns-then-kept-count : goal.put_branches-returns-then-kept-count
put_branches-returns-then-kept-count g t c =
    let owner = typed_shown c.args.value.now in
    let limit = limit_of c.args.style.now (label_of owner) in
    let len : c.len-count.result ≡ member_count (members_of owner) =
    c.len-count.ensures ∙ ap (λ v. member_count (members_of (typed_shown v))) c.new-parts.ensures in
    let kept : c.kept_count-kept.result ≡ kept_count limit (member_count (members_of owner)) =
    c.kept_count-kept.ensures.is ∙ ap (λ most. kept_count most c.len-count.result) c.limit_of.ensures
    ∙ ap (kept_count limit) len in
    let end : c.loop-place.place ≡ kept_count limit (member_count (members_of owner)) =
    omega (arith, kept, c.loop-place.invariant.within, c.loop-place-test.false) in
    told_last (told_same (branches_left c.args.style.now limit (steps_of c.args.steps.now) owner c.loop-place.place end
    (omega (arith, end, kept, len, c.if-kept-count.true))) c.loop-place.invariant.told)
    (rw (end, sym kept, sym len) c.put_more_leaf.ensures)

pub put_branches-returns-else-kept-count : goal.put_branches-returns-else-kept-count
put_branches-returns-else-kept-count g t c =
    let owner = typed_shown c.args.value.now in
    let len : c.len-count.result ≡ member_count (members_of owner) =
    c.len-count.ensures ∙ ap (λ v. member_count (members_of (typed_shown v))) c.new-parts.ensures in
    told_all (branches_end c.args.style.now (limit_of c.args.style.now (label_of owner)) (steps_of c.args.steps.now)
    owner c.loop-place.place (omega (arith, len, c.loop-place-test.false, c.if-kept-count.false)))
    c.loop-place.invariant.told
