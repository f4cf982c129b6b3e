use Rattle.std.proofs.Common.{◌≢◌, ◌-◌, ◌≤◌, All, take}
use Rattle.jobs.proofs.names.count_to_zero.Given as goal

abbrev pub invariant-loop-count : goal.invariant-loop-count
invariant-loop-count l = (l.count ≤ l.most) × All (λ byte. byte ≢ 0) (take l.count l.bytes)

abbrev pub decreases-loop-count : goal.decreases-loop-count
decreases-loop-count l = l.most - l.count
