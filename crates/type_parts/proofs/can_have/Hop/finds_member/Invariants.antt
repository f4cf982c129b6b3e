use Rattle.std.proofs.Common.{◌≡◌, map, drop}
use Rattle.type_parts.specs.CanHave.{of_hop, is_known, some_member}
use Rattle.type_parts.proofs.can_have.Hop.finds_member.Given as goal

abbrev pub invariant-loop-number : goal.invariant-loop-number
invariant-loop-number g l =
    some_member (of_hop l.self) (is_known l.fn.known) l.standing (map g.M.Member.member l.fn.members) 0
    ≡ some_member (of_hop l.self) (is_known l.fn.known) l.standing
    (map g.M.Member.member (drop l.number l.fn.members)) l.number
