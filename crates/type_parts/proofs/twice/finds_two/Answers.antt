use Rattle.std.proofs.Common.{arith, ◌+◌, ◌∙◌, drop, length, map}
use Rattle.std.proofs.lemmas.List.{drop_more}
use Rattle.type_parts.specs.CanHave.{of_hop, is_known}
use Rattle.type_parts.proofs.Known.{member_below}
use Rattle.type_parts.proofs.TwoMembers.{neither, two_next}
use Rattle.type_parts.proofs.twice.finds_two.Goals as goal

pub finds-leads_on-requires : goal.finds-leads_on-requires
finds-leads_on-requires g c =
    member_below (length c.args.known.now) g.M.Member.member c.args.members.now c.loop-number.number
    c.index-members-number.result c.requires.known (omega (arith, c.loop-number-test.true)) c.index-members-number.is

pub finds-requires : goal.finds-requires
finds-requires g c =
    member_below (length c.args.twice.now) g.M.Member.member c.args.members.now c.loop-number.number
    c.index-members-number.result c.requires.twice (omega (arith, c.loop-number-test.true)) c.index-members-number.is

pub loop-number-preserved : goal.loop-number-preserved
loop-number-preserved g c =
    let next = drop_more c.args.members.now c.loop-number.number c.index-members-number.result (omega arith) in
    let next = rw (← c.index-members-number.is) at next in
    let left = rw next at c.loop-number.invariant in
    let passed =
    two_next (of_hop c.args.hop) (is_known c.args.known.now) (is_known c.args.twice.now) c.loop-number.found
    (g.M.Member.member c.index-members-number.result)
    (map g.M.Member.member (drop (c.loop-number.number + 1) c.args.members.now)) c.loop-number.number in
    let none = neither _ c.loop-number.found c.finds-leads_on.result c.if-finds.false c.if-leads_on.either in
    let none = rw (c.finds.ensures, c.finds-leads_on.ensures) at none in
    left ∙ (rw (← c.finds-leads_on.ensures) at (passed none))
