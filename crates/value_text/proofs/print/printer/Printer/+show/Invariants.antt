use Rattle.std.proofs.Common.{◌+◌, ◌*◌}
use Rattle.pickle_meaning.specs.Values.{label_of, members_of}
use Rattle.value_store.specs.Refs.{rank_of}
use Rattle.value_text.specs.TypedValue.{value_in, node_in, mapped_in}
use Rattle.value_text.specs.ShowText.{shown_parts}
use Rattle.value_text.specs.ShowParts.{view_at, all_parts_text}
use Rattle.value_text.proofs.Puts.{Told}
use Rattle.value_text.proofs.MemberTexts.{members_from}
use Rattle.value_text.proofs.print.printer.Printer.+show.Given as goal

abbrev pub decreases-put_shown_rest : goal.decreases-put_shown_rest
decreases-put_shown_rest g l = 6 * rank_of (value_in l.value) + 5

abbrev pub decreases-put_shown_body : goal.decreases-put_shown_body
decreases-put_shown_body g l = 6 * rank_of (value_in l.value) + 4

abbrev pub decreases-put_shown_lines : goal.decreases-put_shown_lines
decreases-put_shown_lines g l = 6 * rank_of (value_in l.value) + 3

abbrev pub decreases-put_shown_below : goal.decreases-put_shown_below
decreases-put_shown_below g l = 6 * rank_of (value_in l.value) + 2

abbrev pub decreases-put_shown_parts : goal.decreases-put_shown_parts
decreases-put_shown_parts g l = 6 * rank_of (value_in l.value) + 1

abbrev pub decreases-put_shown_part : goal.decreases-put_shown_part
decreases-put_shown_part g l = 6 * rank_of l.part + 6

abbrev pub invariant-put_shown_parts-loop-place : goal.invariant-put_shown_parts-loop-place
invariant-put_shown_parts-loop-place g l =
    Told g.W.Write.contents l.initial.self l.self
    (shown_parts (view_at l.fn.sight l.fn.value) (l.fn.level + 1) (node_in l.fn.value) (label_of (mapped_in l.fn.value))
    l.place (members_from l.place (members_of (mapped_in l.fn.value))))
    (all_parts_text (view_at l.fn.sight l.fn.value) l.fn.level (node_in l.fn.value) (mapped_in l.fn.value))
