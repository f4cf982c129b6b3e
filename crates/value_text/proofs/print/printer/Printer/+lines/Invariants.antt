use Rattle.std.proofs.Common.{◌+◌, ◌*◌, ◌≤◌}
use Rattle.pickle_meaning.specs.Values.{label_of, members_of, member_count}
use Rattle.value_store.specs.Refs.{rank_of}
use Rattle.value_text.specs.TypedValue.{value_in, typed_shown}
use Rattle.value_text.specs.CutArrays.{limit_of, kept_count}
use Rattle.value_text.specs.StyledLeaves.{styled_branches}
use Rattle.value_text.specs.LeafText.{branches_at}
use Rattle.value_text.specs.Steps.{steps_of}
use Rattle.value_text.proofs.Puts.{Told}
use Rattle.value_text.proofs.MemberTexts.{members_from}
use Rattle.value_text.proofs.print.printer.Printer.+lines.Given as goal

abbrev pub decreases-put_leaves : goal.decreases-put_leaves
decreases-put_leaves g l = 4 * rank_of (value_in l.value.now) + 3

abbrev pub decreases-put_branches : goal.decreases-put_branches
decreases-put_branches g l = 4 * rank_of (value_in l.value.now) + 1

abbrev pub decreases-put_branch : goal.decreases-put_branch
decreases-put_branch g l = 4 * rank_of (value_in l.part.now) + 4

abbrev pub invariant-put_branches-loop-place : goal.invariant-put_branches-loop-place
invariant-put_branches-loop-place g l = record {
  within : l.place ≤ kept_count (limit_of l.style (label_of (typed_shown l.value)))
      (member_count (members_of (typed_shown l.value)));
  told : Told g.W.Write.contents l.initial.self l.self
      (styled_branches l.style (limit_of l.style (label_of (typed_shown l.value))) (steps_of l.steps)
      (typed_shown l.value) l.place (members_from l.place (members_of (typed_shown l.value))))
      (branches_at l.style l.steps l.value);
}
