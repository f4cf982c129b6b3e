use Rattle.std.proofs.Common.{◌≡◌, map, drop}
use Rattle.type_parts.specs.CanHave.{of_hop, is_known}
use Rattle.type_parts.specs.Twice.{two_members}
use Rattle.type_parts.proofs.TwoMembers.{two_left}
use Rattle.type_parts.proofs.twice.finds_two.Given as goal

abbrev pub invariant-loop-number : goal.invariant-loop-number
invariant-loop-number g l =
    two_members (of_hop l.hop) (is_known l.fn.known) (is_known l.fn.twice) (map g.M.Member.member l.fn.members) 0
    ≡ two_left (of_hop l.hop) (is_known l.fn.known) (is_known l.fn.twice) l.found
    (map g.M.Member.member (drop l.number l.fn.members)) l.number
