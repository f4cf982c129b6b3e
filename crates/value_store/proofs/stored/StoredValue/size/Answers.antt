use Rattle.value_store.proofs.RecordsRead.{at_within, at_end}
use Rattle.value_store.proofs.stored.StoredValue.size.Goals as goal

pub node_size-requires : goal.node_size-requires
node_size-requires c =
    at_within c.args.self.now.store.now.slots c.args.self.now.place c.in-Node.at c.args.self.now.in_range c.in-Node.is

pub returns-in-Node : goal.returns-in-Node
returns-in-Node c = λ names.
    at_end names c.args.self.now.store.now.slots c.args.self.now.place c.in-Node.at c.node_size.result
    c.args.self.now.in_range c.in-Node.is (c.node_size.ensures names)
