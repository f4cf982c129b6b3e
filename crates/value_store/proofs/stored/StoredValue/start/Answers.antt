use Rattle.std.proofs.Common.{◌+◌, ◌*◌, ◌^◌, ◌<◌, subst, arith}
use Rattle.value_store.specs.Lent.{IsPlace}
use Rattle.value_store.proofs.Instances.{is_part}
use Rattle.value_store.proofs.RecordsRead.{part_short}
use Rattle.value_store.proofs.stored.StoredValue.start.Goals as goal

pub overflow_add-result-in-Part : goal.overflow_add-result-in-Part
overflow_add-result-in-Part c =
    let slots = c.args.self.now.store.now.slots in
    let p = is_part slots c.in-Part.array c.in-Part.index c.in-Part.node
    (subst (IsPlace slots) c.in-Part.is c.args.self.now.in_range) in
    let array = c.node_at-in-Part.ensures in
    let part = c.node_at-in-Part-2.ensures in
    let short : c.node_at-in-Part-2.result.start + c.from-in-Part.result * c.in-Part.index < 2 ^ 64 =
    rw (c.from-in-Part.ensures, c.record_size-size.ensures) (part_short slots c.in-Part.array c.in-Part.index
    c.in-Part.node c.node_at-in-Part.result c.node_at-in-Part-2.result array.read.sound p array.is part.is) in
    omega (arith, short)
