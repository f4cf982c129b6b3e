use Rattle.std.proofs.Common.{◌≡◌, ◌+◌, ◌-◌, ◌≤◌, length, drop}
use Rattle.std.specs.List.{prefix_len}
use Rattle.value_text.specs.ValueText.{is_plain}
use Rattle.value_text.proofs.print.string.plain_blocks.Given as goal

abbrev pub invariant-loop-done : goal.invariant-loop-done
invariant-loop-done l =
    (l.done ≤ length l.bytes) × (prefix_len is_plain l.bytes ≡ l.done + prefix_len is_plain (drop l.done l.bytes))

abbrev pub decreases-loop-done : goal.decreases-loop-done
decreases-loop-done l = length l.bytes - l.done
