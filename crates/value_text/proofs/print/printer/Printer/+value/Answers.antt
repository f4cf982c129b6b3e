use Rattle.std.proofs.Common.{◌≡◌, ◌∙◌, ◌<◌, ap, sym, arith, subst, Some, None, false, refl}
use Rattle.pickle_meaning.specs.Values.{label_of, members_of, member_at, member_count}
use Rattle.value_store.specs.Integers.{AreBytesOf}
use Rattle.value_store.specs.Scalars.{scalar_label, scalar_if}
use Rattle.value_text.specs.Puts.{Puts}
use Rattle.value_text.specs.TypedValue.{typed_shown}
use Rattle.value_text.specs.CutArrays.{is_past, is_cut, kept_count}
use Rattle.value_text.proofs.Cuts.{kept_before, kept_within}
use Rattle.value_text.proofs.Puts.{told_none, told_next, told_same, told_last, told_all, told_failed}
use Rattle.value_text.proofs.MemberTexts.{IsFound, found_if, none_found}
use Rattle.value_text.specs.Notation.{keys, no_key}
use Rattle.value_text.proofs.WrittenTexts.{member_number, member_present, member_absent, members_left, members_end, field_present, field_number}
use Rattle.value_text.proofs.RowTexts.{byte_row}
use Rattle.value_text.proofs.print.printer.Printer.+value.Goals.{put_fields-in-Some, put_fields-in_default+in-Some-get, put_fields-in_default+in_default-get, put_each-then-numbers, put_each-else-numbers, put_each-in-Some, put_each-in_default+in-Some-get, put_each-in_default+in_default-get}
use Rattle.value_text.proofs.print.printer.Printer.+value.Goals as goal

pub put_each-loop-place-preserved : goal.put_each-loop-place-preserved
put_each-loop-place-preserved g t c =
    let notation = g.F.Form.notation in
    let all = members_of (typed_shown c.args.value.now) in
    let len : c.len-count.result ≡ member_count all =
    c.len-count.ensures ∙ ap (λ v. member_count (members_of (typed_shown v))) c.new-elements.ensures in
    let limit = c.args.style.now.elements in
    let kept : c.kept_count-kept.result ≡ kept_count limit (member_count all) =
    c.kept_count-kept.ensures.is ∙ ap (kept_count limit) len in
    let i = c.loop-place.place in
    let before : is_past limit i ≡ false =
    kept_before limit (member_count all) i (omega (arith, kept, c.loop-place-test.true)) in
    let lt : i < member_count all = omega (arith, kept, kept_within limit (member_count all), c.loop-place-test.true) in
    let asked : IsFound c.if-numbers.number (member_at all i) =
    elim c.if-numbers.branch [
      | put_each-then-numbers w ↦
          subst (λ n. IsFound n (member_at all i)) (sym w.number-is)
          (found_if w.scalar-number.result (member_at all i)
          (w.scalar-number.ensures
          ∙ ap (λ v. scalar_if (member_at (members_of (typed_shown v)) i)) c.new-elements.ensures))
      | put_each-else-numbers w ↦ none_found c.if-numbers.number (member_at all i) w.number-is
    ] in
    elim c.match-number.branch [
      | put_each-in-Some w ↦
          (let is : Some (scalar_label w.in-Some.number) ≡ scalar_if (member_at all i) =
          subst (λ n. IsFound n (member_at all i)) w.in-Some.is asked in
          rw (w.self-is, w.first-is) (record {
            within = omega (arith, kept, c.loop-place-test.true);
            told =
                told_next (member_number notation c.args.style.now limit no_key all i c.loop-place.first _ lt before is)
                c.loop-place.invariant.told w.put_number_element.ensures;
          }))
      | put_each-in_default+in-Some-get w ↦
          (let is : Some (typed_shown w.in-Some-get.element) ≡ member_at all i =
          w.in-Some-get.ensures.member ∙ ap (λ v. member_at (members_of (typed_shown v)) i) c.new-elements.ensures in
          rw (w.self-is, w.first-is) (record {
            within = omega (arith, kept, c.loop-place-test.true);
            told = told_next
                (member_present notation c.args.style.now limit no_key all i c.loop-place.first _ lt before is)
                c.loop-place.invariant.told w.put_element.ensures;
          }))
      | put_each-in_default+in_default-get w ↦
          rw (w.self-is, w.first-is) (record {
            within = omega (arith, kept, c.loop-place-test.true);
            told = told_same (member_absent notation c.args.style.now limit no_key all i c.loop-place.first lt before
                (w.in_default-get.ensures.member
                ∙ ap (λ v. member_at (members_of (typed_shown v)) i) c.new-elements.ensures))
                c.loop-place.invariant.told;
          })
    ]

pub put_each-returns : goal.put_each-returns
put_each-returns g t c =
    let notation = g.F.Form.notation in
    let all = members_of (typed_shown c.args.value.now) in
    let len : c.len-count.result ≡ member_count all =
    c.len-count.ensures ∙ ap (λ v. member_count (members_of (typed_shown v))) c.new-elements.ensures in
    let limit = c.args.style.now.elements in
    let kept : c.kept_count-kept.result ≡ kept_count limit (member_count all) =
    c.kept_count-kept.ensures.is ∙ ap (kept_count limit) len in
    let end : c.loop-place.place ≡ kept_count limit (member_count all) =
    omega (arith, kept, c.loop-place.invariant.within, c.loop-place-test.false) in
    told_last
    (told_same (members_left notation c.args.style.now limit no_key all c.loop-place.place c.loop-place.first end)
    c.loop-place.invariant.told) (rw (end, sym kept, sym len) c.put_left.ensures)

pub put_fields-loop-place-preserved : goal.put_fields-loop-place-preserved
put_fields-loop-place-preserved g t c =
    let notation = g.F.Form.notation in
    let all = members_of (typed_shown c.args.value.now) in
    let label = label_of (typed_shown c.args.value.now) in
    let len : c.len-place-end.result ≡ member_count all =
    c.len-place-end.ensures ∙ ap (λ v. member_count (members_of (typed_shown v))) c.new-fields.ensures in
    let i = c.loop-place.place in
    let lt : i < member_count all = omega (arith, len, c.loop-place-test.true) in
    elim c.match-scalar.branch [
      | put_fields-in-Some w ↦
          (let is : Some (scalar_label w.in-Some.number) ≡ scalar_if (member_at all i) =
          w.in-Some.ensures ∙ ap (λ v. scalar_if (member_at (members_of (typed_shown v)) i)) c.new-fields.ensures in
          rw (w.self-is, w.first-is) (told_next
          (field_number notation c.args.style.now label all i c.loop-place.first _ lt is) c.loop-place.invariant
          (rw (w.get.ensures ∙ c.requires.names i) at w.put_number_field.ensures)))
      | put_fields-in_default+in-Some-get w ↦
          (let is : Some (typed_shown w.in-Some-get.field) ≡ member_at all i =
          w.in-Some-get.ensures.member ∙ ap (λ v. member_at (members_of (typed_shown v)) i) c.new-fields.ensures in
          rw (w.self-is, w.first-is) (told_next
          (field_present notation c.args.style.now label all i c.loop-place.first _ lt is) c.loop-place.invariant
          (rw (w.get-in-Some-get.ensures ∙ c.requires.names i) at w.put_field.ensures)))
      | put_fields-in_default+in_default-get w ↦
          rw (w.self-is, w.first-is)
          (told_same
          (member_absent notation c.args.style.now None (keys notation label) all i c.loop-place.first lt refl
          (w.in_default-get.ensures.member ∙ ap (λ v. member_at (members_of (typed_shown v)) i) c.new-fields.ensures))
          c.loop-place.invariant)
    ]

pub put_fields-returns : goal.put_fields-returns
put_fields-returns g t c =
    let notation = g.F.Form.notation in
    let len : c.len-place-end.result ≡ member_count (members_of (typed_shown c.args.value.now)) =
    c.len-place-end.ensures ∙ ap (λ v. member_count (members_of (typed_shown v))) c.new-fields.ensures in
    told_all (members_end notation c.args.style.now None (keys notation (label_of (typed_shown c.args.value.now)))
    (members_of (typed_shown c.args.value.now)) c.loop-place.place c.loop-place.first
    (omega (arith, len, c.loop-place-test.false))) c.loop-place.invariant

pub put_elements-returns-in-Some : goal.put_elements-returns-in-Some
put_elements-returns-in-Some g t c =
    let notation = g.F.Form.notation in
    let are : AreBytesOf c.in-Some.number c.in-Some.bytes.now (typed_shown c.args.value.now) =
    subst (λ v. AreBytesOf c.in-Some.number c.in-Some.bytes.now (typed_shown v)) c.new-elements.ensures
    c.in-Some.ensures in
    let len : c.len.result ≡ member_count (members_of (typed_shown c.args.value.now)) =
    c.len.ensures ∙ ap (λ v. member_count (members_of (typed_shown v))) c.new-elements.ensures in
    let whole : is_cut c.args.style.now.elements (member_count (members_of (typed_shown c.args.value.now))) ≡ false =
    ap (is_cut c.args.style.now.elements) (sym len) ∙ sym c.is_cut.ensures ∙ c.if-is_cut.false in
    subst (Puts g.W.Write.contents c.args.self.now c.put_byte_row.new.self)
    (byte_row notation c.args.style.now _ _ _ are whole)
    c.put_byte_row.ensures

pub put_each-returns-then-self : goal.put_each-returns-then-self
put_each-returns-then-self g t c = told_failed c.if-self.true c.loop-place.invariant.told

pub put_fields-returns-then-self : goal.put_fields-returns-then-self
put_fields-returns-then-self g t c = told_failed c.if-self.true c.loop-place.invariant

pub put_each-loop-place-init : goal.put_each-loop-place-init
put_each-loop-place-init g t c = record { within = omega arith; told = told_none }

pub put_fields-loop-place-init : goal.put_fields-loop-place-init
put_fields-loop-place-init g t c = told_none
