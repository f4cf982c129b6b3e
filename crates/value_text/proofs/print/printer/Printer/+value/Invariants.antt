use Rattle.std.proofs.Common.{◌+◌, ◌*◌, ◌≤◌, None}
use Rattle.pickle_meaning.specs.Values.{label_of, members_of, member_count}
use Rattle.value_store.specs.Refs.{rank_of}
use Rattle.value_text.specs.TypedValue.{value_in, typed_shown}
use Rattle.value_text.specs.Notation.{keys, no_key}
use Rattle.value_text.specs.StyledValue.{written_members}
use Rattle.value_text.specs.CutArrays.{kept_count}
use Rattle.value_text.specs.PartText.{fields_text, elements_text}
use Rattle.value_text.proofs.Puts.{Told}
use Rattle.value_text.proofs.MemberTexts.{members_from}
use Rattle.value_text.proofs.print.printer.Printer.+value.Given as goal

abbrev pub decreases-put_array : goal.decreases-put_array
decreases-put_array g l = 5 * rank_of (value_in l.value.now) + 3

abbrev pub decreases-put_elements : goal.decreases-put_elements
decreases-put_elements g l = 5 * rank_of (value_in l.value.now) + 2

abbrev pub decreases-put_each : goal.decreases-put_each
decreases-put_each g l = 5 * rank_of (value_in l.value.now) + 1

abbrev pub decreases-put_element : goal.decreases-put_element
decreases-put_element g l = 5 * rank_of (value_in l.element.now) + 5

abbrev pub decreases-put_field : goal.decreases-put_field
decreases-put_field g l = 5 * rank_of (value_in l.field.now) + 5

abbrev pub decreases-put_fields : goal.decreases-put_fields
decreases-put_fields g l = 5 * rank_of (value_in l.value.now) + 1

abbrev pub decreases-put_titled : goal.decreases-put_titled
decreases-put_titled g l = 5 * rank_of (value_in l.value.now) + 3

abbrev pub decreases-put_value : goal.decreases-put_value
decreases-put_value g l = 5 * rank_of (value_in l.value.now) + 4

abbrev pub invariant-put_fields-loop-place : goal.invariant-put_fields-loop-place
invariant-put_fields-loop-place g l =
    Told g.W.Write.contents l.initial.self l.self
    (written_members g.F.Form.notation l.fn.style None
    (keys g.F.Form.notation (label_of (typed_shown l.fn.value))) l.place l.first
    (members_from l.place (members_of (typed_shown l.fn.value))))
    (fields_text g.F.Form.notation l.fn.style (typed_shown l.fn.value))

abbrev pub invariant-put_each-loop-place : goal.invariant-put_each-loop-place
invariant-put_each-loop-place g l = record {
  within : l.place ≤ kept_count l.fn.style.elements (member_count (members_of (typed_shown l.fn.value)));
  told : Told g.W.Write.contents l.initial.self l.self
      (written_members g.F.Form.notation l.fn.style l.fn.style.elements no_key l.place l.first
      (members_from l.place (members_of (typed_shown l.fn.value))))
      (elements_text g.F.Form.notation l.fn.style (typed_shown l.fn.value));
}
