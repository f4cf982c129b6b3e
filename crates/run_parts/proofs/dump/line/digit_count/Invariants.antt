use Rattle.std.proofs.Common.{◌-◌, ◌*◌, ◌^◌, ◌<◌, ◌≤◌}
use Rattle.run_parts.proofs.dump.line.digit_count.Given as goal

abbrev pub invariant-loop-count : goal.invariant-loop-count
invariant-loop-count l = 8 < l.count → 2 ^ (4 * (l.count - 1)) ≤ l.place
