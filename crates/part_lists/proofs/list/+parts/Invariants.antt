use Rattle.std.proofs.Common.{◌≤◌, ◌+◌, ◌*◌, length, drop}
use Rattle.part_lists.specs.Listed.{steps_from}
use Rattle.part_lists.specs.PartLines.{next_lines}
use Rattle.value_text.proofs.Puts.{Told}
use Rattle.part_lists.proofs.list.+parts.Given as goal

abbrev pub decreases-put_part : goal.decreases-put_part
decreases-put_part g l = 3 * l.levels + 1

abbrev pub decreases-put_parts : goal.decreases-put_parts
decreases-put_parts g l = 3 * l.levels + 3

abbrev pub decreases-put_nexts : goal.decreases-put_nexts
decreases-put_nexts g l = 3 * l.levels + 2

abbrev pub invariant-put_nexts-loop-number : goal.invariant-put_nexts-loop-number
invariant-put_nexts-loop-number g l = record {
  within : l.number ≤ length (steps_from l.shape);
  told : Told g.W.Write.contents l.initial.printer l.printer
      (next_lines l.listing l.levels l.route (drop l.number (steps_from l.shape)))
      (next_lines l.listing l.levels l.route (steps_from l.shape));
}
