use Rattle.std.proofs.Common.{◌≡◌, ◌+◌, ◌*◌}
use Rattle.pickle_meaning.specs.Values.{members_of}
use Rattle.value_store.specs.Refs.{value_shown, rank_of}
use Rattle.value_text.specs.ShowText.{are_inline}
use Rattle.value_text.proofs.MemberTexts.{members_from}
use Rattle.value_text.proofs.print.show.inline.+inline.Given as goal

abbrev pub decreases-is_inline : goal.decreases-is_inline
decreases-is_inline l = 3 * rank_of l.value + 2

abbrev pub decreases-are_inline : goal.decreases-are_inline
decreases-are_inline l = 3 * rank_of l.value + 1

abbrev pub decreases-is_inline_at : goal.decreases-is_inline_at
decreases-is_inline_at l = 3 * rank_of l.value

abbrev pub invariant-are_inline-loop-place : goal.invariant-are_inline-loop-place
invariant-are_inline-loop-place l = are_inline (members_of (value_shown l.fn.value))
    ≡ are_inline (members_from l.place (members_of (value_shown l.fn.value)))
