use Rattle.std.proofs.Common.{arith, ◌+◌, ◌∙◌, sym, drop, length, map}
use Rattle.std.proofs.lemmas.List.{drop_more}
use Rattle.type_parts.specs.CanHave.{of_hop, is_known}
use Rattle.type_parts.proofs.Known.{member_below}
use Rattle.type_parts.proofs.TwoMembers.{one_next}
use Rattle.type_parts.proofs.can_have.Hop.finds_member.Goals as goal

pub finds-requires : goal.finds-requires
finds-requires g c =
    member_below (length c.args.known.now) g.M.Member.member c.args.members.now c.loop-number.number
    c.index-members-number.result c.requires (omega (arith, c.loop-number-test.true)) c.index-members-number.is

pub loop-number-preserved : goal.loop-number-preserved
loop-number-preserved g c =
    let next = drop_more c.args.members.now c.loop-number.number c.index-members-number.result (omega arith) in
    let next = rw (← c.index-members-number.is) at next in
    let left = rw next at c.loop-number.invariant in
    let passed = one_next (of_hop c.args.self) (is_known c.args.known.now) c.args.standing
    (g.M.Member.member c.index-members-number.result)
    (map g.M.Member.member (drop (c.loop-number.number + 1) c.args.members.now)) c.loop-number.number in
    left ∙ passed (sym (rw c.place.ensures at c.finds.ensures) ∙ c.if-finds.false)
