use Rattle.std.proofs.Common.{◌+◌, ◌*◌, ◌≤◌}
use Rattle.pickle_meaning.specs.Values.{label_of, members_of, member_count}
use Rattle.value_store.specs.Refs.{rank_of}
use Rattle.value_text.specs.TypedValue.{value_in, typed_shown}
use Rattle.value_text.specs.CutArrays.{limit_of, kept_count}
use Rattle.value_text.specs.StyledTree.{styled_parts}
use Rattle.value_text.specs.LineText.{all_parts_text}
use Rattle.value_text.proofs.Puts.{Told}
use Rattle.value_text.proofs.MemberTexts.{members_from}
use Rattle.value_text.proofs.print.printer.Printer.+tree.Given as goal

abbrev pub decreases-put_below : goal.decreases-put_below
decreases-put_below g l = 4 * rank_of (value_in l.value.now) + 2

abbrev pub decreases-put_part : goal.decreases-put_part
decreases-put_part g l = 4 * rank_of (value_in l.part.now) + 4

abbrev pub decreases-put_parts : goal.decreases-put_parts
decreases-put_parts g l = 4 * rank_of (value_in l.value.now) + 1

abbrev pub decreases-put_rest : goal.decreases-put_rest
decreases-put_rest g l = 4 * rank_of (value_in l.value.now) + 3

abbrev pub invariant-put_parts-loop-place : goal.invariant-put_parts-loop-place
invariant-put_parts-loop-place g l = record {
  within : l.place ≤ kept_count (limit_of l.style (label_of (typed_shown l.value)))
      (member_count (members_of (typed_shown l.value)));
  told : Told g.W.Write.contents l.initial.self l.self
      (styled_parts l.style (limit_of l.style (label_of (typed_shown l.value)))
      (l.level + 1) (label_of (typed_shown l.value)) l.place (members_from l.place (members_of (typed_shown l.value))))
      (all_parts_text l.style l.level (typed_shown l.value));
}
