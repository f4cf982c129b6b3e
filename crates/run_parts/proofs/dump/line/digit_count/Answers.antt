use Rattle.std.proofs.Common.{◌≡◌, ◌-◌, ◌*◌, ◌^◌, ◌≤◌, arith, subst}
use Rattle.run_parts.proofs.dump.line.digit_count.Goals as goal

pub returns-clause-needed : goal.returns-clause-needed
returns-clause-needed c =
    let last : c.loop-count.count ≡ 16 = omega arith in
    λ _. subst (λ k. 2 ^ (4 * (k - 1)) ≤ c.args.place) last (c.loop-count.invariant (omega arith))
