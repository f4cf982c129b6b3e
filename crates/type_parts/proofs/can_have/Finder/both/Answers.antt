use Rattle.std.proofs.Common.{arith, ◌∙◌}
use Rattle.type_parts.proofs.Known.{both_more, known_count}
use Rattle.type_parts.proofs.can_have.Finder.both.Goals as goal

pub loop-at-preserved : goal.loop-at-preserved
loop-at-preserved c = λ one other are are'.
    rw (c.index.ensures, c.index-in-loop-at.ensures) at c.in_ok-push.ensures.items
    ∙ both_more c.args.self.now.nodes.now c.args.first.items c.args.second.items one other are are' c.loop-at.at
    (omega (arith, known_count c.args.self.now.nodes.now c.args.first.items one are)) c.loop-at.all.items
    (c.loop-at.invariant one other are are')
    c.index.result.now c.index-in-loop-at.result.now
