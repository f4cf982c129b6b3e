use Rattle.value_store.proofs.RecordsRead.{at_shape}
use Rattle.value_store.proofs.stored.StoredValue.shape.Goals as goal

pub returns-in-Node : goal.returns-in-Node
returns-in-Node c = at_shape c.args.self.now.store.now.slots c.args.self.now.place c.in-Node.at c.node_at.result
    c.args.self.now.in_range c.in-Node.is c.node_at.ensures.read
