use Rattle.std.proofs.Common.{sym, ◌∙◌, arith}
use Rattle.part_lists.proofs.Lines.{member_next, no_member_next}
use Rattle.part_lists.proofs.next.to_member.Goals as goal

pub returns-in-Some : goal.returns-in-Some
returns-in-Some g c =
    let there = c.in-Some.ensures.lookup in
    rw (c.member_step.ensures, c.name.ensures, c.place.ensures, c.node.ensures)
    (sym (member_next g.M.Member.member c.args.standing c.args.members.now 0 c.args.number c.args.number
    c.in-Some.member.now (omega arith) there.3.0 there.1))

pub returns-in-None : goal.returns-in-None
returns-in-None g c =
    sym (no_member_next g.M.Member.member c.args.standing c.args.members.now 0 c.args.number c.in-None.ensures.lookup.3)
