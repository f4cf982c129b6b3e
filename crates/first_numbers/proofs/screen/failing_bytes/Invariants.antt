use Rattle.std.proofs.Common.{◌≡◌, ◌-◌, ◌<◌, ◌≤◌, ℕ, true, false, get_or, length}
use Rattle.first_numbers.specs.Held.{number_shown}
use Rattle.first_numbers.specs.Screens.{FailsWith}
use Rattle.first_numbers.proofs.screen.failing_bytes.Given as goal

abbrev pub invariant-loop-byte : goal.invariant-loop-byte
invariant-loop-byte l = record {
  within : l.byte ≤ 256;
  size : length l.fails ≡ 256;
  fail : (k : ℕ) → k < l.byte → get_or l.fails k false ≡ true → FailsWith (number_shown l.x) l.index k l.steps;
}

abbrev pub decreases-loop-byte : goal.decreases-loop-byte
decreases-loop-byte l = 256 - l.byte
