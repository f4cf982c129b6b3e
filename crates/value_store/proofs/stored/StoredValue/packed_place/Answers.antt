use Rattle.std.proofs.Common.{arith}
use Rattle.value_store.proofs.RecordsRead.{template_before}
use Rattle.value_store.proofs.stored.StoredValue.packed_place.Goals as goal

pub overflow_sub-result : goal.overflow_sub-result
overflow_sub-result c =
    let slots = c.args.self.now.store.now.slots in
    let read = c.node_at.ensures in
    omega (
      arith,
      template_before slots c.in-Node.at c.node_at.result c.in-Records.stride c.in-Records.size read.read.sound
          read.is c.in-Records.is,
    )
