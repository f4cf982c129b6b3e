use Rattle.value_store.proofs.RecordsRead.{packed_bytes}
use Rattle.value_store.proofs.stored.StoredValue.bytes.Goals as goal

pub returns-in_default : goal.returns-in_default
returns-in_default c = λ names.
    packed_bytes names c.args.self.now.store.now.slots c.args.self.now.place c.node_at-node.ensures.read.sound
    c.args.self.now.in_range c.in_default.not-Node
