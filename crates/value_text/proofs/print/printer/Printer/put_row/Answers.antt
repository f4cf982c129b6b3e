use Rattle.std.proofs.Common.{rules, ◌≡◌, ◌∙◌, ◌<◌, ap, arith, subst, sym, Some, false}
use Rattle.std.specs.Prelude.{IfSome}
use Rattle.pickle_meaning.specs.Values.{members_of, member_at, member_count, label_of}
use Rattle.value_store.specs.Integers.{IsIntegerOf}
use Rattle.value_store.specs.Labels.{number_of}
use Rattle.value_text.specs.Puts.{Puts}
use Rattle.value_text.specs.TypedValue.{typed_shown}
use Rattle.value_text.specs.Notation.{no_key}
use Rattle.value_text.specs.CutArrays.{is_past}
use Rattle.value_text.specs.PartText.{element_text, integer_element}
use Rattle.value_text.proofs.Cuts.{whole_before}
use Rattle.value_text.proofs.Puts.{told_none, told_next, told_same, told_all, told_failed}
use Rattle.value_text.proofs.WrittenTexts.{member_present, member_absent, members_end}
use Rattle.value_text.proofs.RowTexts.{integer_is}
use Rattle.value_text.proofs.print.printer.Printer.put_row.Goals.{in-Some, in_default}
use Rattle.value_text.proofs.print.printer.Printer.put_row.Goals as goal

pub loop-place-preserved : goal.loop-place-preserved
loop-place-preserved g c =
    let notation = g.F.Form.notation in
    let all = members_of (typed_shown c.args.value.now) in
    let style = c.args.style.now in
    let len : c.len-place-end.result ≡ member_count all =
    c.len-place-end.ensures ∙ ap (λ v. member_count (members_of (typed_shown v))) c.new-elements.ensures in
    let i = c.loop-place.place in
    let lt : i < member_count all = omega (arith, len, c.loop-place-test.true) in
    let before : is_past style.elements i ≡ false =
    whole_before style.elements (member_count all) i c.requires.whole lt in
    elim c.match-get.branch [
      | in-Some w ↦
          (let u = typed_shown w.in-Some.element in
          let is : Some u ≡ member_at all i =
          w.in-Some.ensures.member ∙ ap (λ v. member_at (members_of (typed_shown v)) i) c.new-elements.ensures in
          let text = integer_is notation style c.loop-place.first u c.args.number
          (subst (λ o. IfSome o (IsIntegerOf c.args.number)) (sym is) (c.requires.integers i)) in
          let item : Puts g.W.Write.contents c.loop-place.self w.put_item.new.self
          (integer_element notation style.numbers c.loop-place.first c.args.number (number_of (label_of u))) =
          search rules in
          rw (w.self-is, w.first-is) (told_next {x = element_text notation style c.loop-place.first u}
          (member_present notation style style.elements no_key all i c.loop-place.first u lt before is)
          c.loop-place.invariant (rw text item)))
      | in_default w ↦
          rw (w.self-is, w.first-is)
          (told_same (member_absent notation style style.elements no_key all i c.loop-place.first lt before
          (w.in_default.ensures.member ∙ ap (λ v. member_at (members_of (typed_shown v)) i) c.new-elements.ensures))
          c.loop-place.invariant)
    ]

pub returns : goal.returns
returns g c =
    let notation = g.F.Form.notation in
    let len : c.len-place-end.result ≡ member_count (members_of (typed_shown c.args.value.now)) =
    c.len-place-end.ensures ∙ ap (λ v. member_count (members_of (typed_shown v))) c.new-elements.ensures in
    told_all
    (members_end notation c.args.style.now c.args.style.now.elements no_key (members_of (typed_shown c.args.value.now))
    c.loop-place.place c.loop-place.first (omega (arith, len, c.loop-place-test.false))) c.loop-place.invariant

pub returns-then-self : goal.returns-then-self
returns-then-self g c = told_failed c.if-self.true c.loop-place.invariant

pub loop-place-init : goal.loop-place-init
loop-place-init g c = told_none
