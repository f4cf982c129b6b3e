use Rattle.std.proofs.Common.{length}
use Rattle.pickle_map.proofs.Strides.{column_count, columns_packed}
use Rattle.pickle_map.proofs.mapper.packings.struct_stride.Goals as goal

pub returns-then-stride-ge1 : goal.returns-then-stride-ge1
returns-then-stride-ge1 c =
    rw c.if-pinned.false (columns_packed c.in_ok-stride.stride (length c.args.fields.now) _ c.if-stride-ge1.true
    c.in_ok-stride.ensures (column_count c.args.nodes.now c.args.fields.now))
