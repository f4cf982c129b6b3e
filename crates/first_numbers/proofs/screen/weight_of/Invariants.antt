use Rattle.std.proofs.Common.{◌-◌, ◌≤◌}
use Rattle.first_numbers.proofs.screen.weight_of.Given as goal

abbrev pub invariant-loop-byte : goal.invariant-loop-byte
invariant-loop-byte l = record { within : l.byte ≤ 256 }

abbrev pub decreases-loop-byte : goal.decreases-loop-byte
decreases-loop-byte l = 256 - l.byte
