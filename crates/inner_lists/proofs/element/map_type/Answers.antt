-- `map_type`: the type's outcome in its steps, or why it stopped.
use Rattle.inner_lists.proofs.Mapped.{came}
use Rattle.inner_lists.proofs.element.map_type.Goals as goal

pub returns-clause-is : goal.returns-clause-is
returns-clause-is g c =
    let frame = c.map_type.ensures.frame in
    came (g.S.Space.view c.args.space.now) (g.S.Space.view c.map_type.new.space) c.args.mapper.now c.map_type.new.self
    c.args.node c.args.order c.args.start (g.met.S.Space.whole c.args.space.now) c.map_type.result frame.lent.nodes
    frame.left.limit c.map_type.ensures.is frame.left.device
