use Rattle.pickle_types.specs.Table.{type_of}
use Rattle.pickle_types.proofs.check.sorts.field_of.Goals as goal

pub returns-in-Node-clause-gives : goal.returns-in-Node-clause-gives
returns-in-Node-clause-gives c =
    let node = c.shape_at.ensures.is in
    let placed = rw node.2 at (c.place_of.ensures node.0 node.1) in
    rw (c.in-Node.is, c.shape_at.ensures.opens)
    (c.shape_field.ensures.gives (type_of c.args.nodes.now) c.args.word.now placed)
