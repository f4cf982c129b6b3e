use Rattle.std.proofs.Common.{◌+◌, ◌*◌}
use Rattle.pickle_meaning.specs.Values.{label_of, members_of}
use Rattle.value_store.specs.Refs.{value_shown, rank_of}
use Rattle.value_text.specs.ShowText.{inline_members}
use Rattle.value_text.specs.ShowParts.{all_inline_text}
use Rattle.value_text.proofs.Puts.{Told}
use Rattle.value_text.proofs.MemberTexts.{members_from}
use Rattle.value_text.proofs.print.printer.Printer.+inline_text.Given as goal

abbrev pub decreases-put_inline : goal.decreases-put_inline
decreases-put_inline g l = 3 * rank_of l.value + 2

abbrev pub decreases-put_inline_members : goal.decreases-put_inline_members
decreases-put_inline_members g l = 3 * rank_of l.value + 1

abbrev pub decreases-put_inline_part : goal.decreases-put_inline_part
decreases-put_inline_part g l = 3 * rank_of l.member + 3

abbrev pub invariant-put_inline_members-loop-place : goal.invariant-put_inline_members-loop-place
invariant-put_inline_members-loop-place g l =
    Told g.W.Write.contents l.initial.self l.self (inline_members l.fn.look (label_of (value_shown l.fn.value)) l.place
    l.first (members_from l.place (members_of (value_shown l.fn.value))))
    (all_inline_text l.fn.look (value_shown l.fn.value))
