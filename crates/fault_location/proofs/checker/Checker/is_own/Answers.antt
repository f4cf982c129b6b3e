use Rattle.std.proofs.Common.{◌∙◌}
use Rattle.fault_parts.specs.Arises.{constraint_of_part, in_part}
use Rattle.fault_location.proofs.checker.Checker.is_own.Goals as goal

pub returns-in-Ok-clause-is : goal.returns-in-Ok-clause-is
returns-in-Ok-clause-is g c =
    λ yes bytes e.
    let one = c.in-Ok.ensures.is bytes e in
    let refused = rw one.keeps at (c.is_refused.ensures.is yes c.args.self.now.nodes.now) in
    constraint_of_part one.means.holds refused

pub returns-then-is_fault-clause-is : goal.returns-then-is_fault-clause-is
returns-then-is_fault-clause-is g c =
    λ yes bytes e.
    let own = c.is_own_fault.ensures.is yes bytes (c.in-Err.ensures.frame.left.bytes ∙ e) in
    in_part (rw (c.in-Err.ensures.frame.lent.nodes, c.in-Err.ensures.level.same) at own)
