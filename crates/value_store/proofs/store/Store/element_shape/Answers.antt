use Rattle.std.specs.Prelude.{slice_get}
use Rattle.value_store.proofs.Lent.{integer_shape, offset_shape}
use Rattle.value_store.proofs.store.Store.element_shape.Goals as goal

pub returns-in-Integers : goal.returns-in-Integers
returns-in-Integers c =
    let node = c.node_at.result in
    integer_shape c.args.self.now.slots (slice_get c.args.self.now.slots.nodes c.args.array) node c.args.index
    c.in-Integers.width c.in-Integers.signed c.node_at.ensures.is c.in-Integers.is c.node_at.ensures.read.content

pub returns-in-Offsets : goal.returns-in-Offsets
returns-in-Offsets c =
    let node = c.node_at.result in
    offset_shape c.args.self.now.slots (slice_get c.args.self.now.slots.nodes c.args.array) node c.args.index
    c.in-Offsets.width c.in-Offsets.signed c.in-Offsets.unit c.node_at.ensures.is c.in-Offsets.is
    c.node_at.ensures.read.content
