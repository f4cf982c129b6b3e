use Rattle.std.proofs.Common.{◌≡◌, ◌-◌, ◌<◌, ◌≤◌, ℕ, true, false, get_or, length}
use Rattle.first_numbers.proofs.screen.Screen.leading.Given as goal

abbrev pub invariant-loop-count : goal.invariant-loop-count
invariant-loop-count l = record {
  within : l.count ≤ length l.part;
  fail : (k : ℕ) → k < l.count →
      (get_or l.part k 0 < 256) × (get_or l.self.fails (get_or l.part k 0) false ≡ true);
}

abbrev pub decreases-loop-count : goal.decreases-loop-count
decreases-loop-count l = length l.part - l.count
