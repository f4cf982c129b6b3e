use Rattle.std.proofs.Common.{refl, sym, ap}
use Rattle.pickle_types.specs.Table.{type_of}
use Rattle.mapping_plans.specs.Rows.{scalar_shape}
use Rattle.pickle_map.proofs.Elements.{not_scalar}
use Rattle.pickle_map.proofs.Shapes.{opened_as, below_as}
use Rattle.pickle_map.proofs.mapper.packed_structs.column_shape.Goals as goal

pub unreachable-requires : goal.unreachable-requires
unreachable-requires c =
    let opened = opened_as c.args.nodes.now c.requires.table c.args.at c.requires.at c.index-nodes-at.result _ refl in
    not_scalar (type_of c.args.nodes.now) _ c.in_default.not-Integer c.in_default.not-Offset
    (rw opened at c.requires.scalar)

pub returns-in-Integer-clause-is : goal.returns-in-Integer-clause-is
returns-in-Integer-clause-is c = sym (ap scalar_shape
    (opened_as c.args.nodes.now c.requires.table c.args.at c.requires.at c.index-nodes-at.result _ c.in-Integer.is))

pub returns-in-Integer-clause-number : goal.returns-in-Integer-clause-number
returns-in-Integer-clause-number c =
    let below =
    below_as c.args.nodes.now c.requires.table c.args.at c.requires.at c.index-nodes-at.result _ c.in-Integer.is in
    (below.some, below.most)

pub returns-in-Offset-clause-is : goal.returns-in-Offset-clause-is
returns-in-Offset-clause-is c = sym (ap scalar_shape
    (opened_as c.args.nodes.now c.requires.table c.args.at c.requires.at c.index-nodes-at.result _ c.in-Offset.is))

pub returns-in-Offset-clause-number : goal.returns-in-Offset-clause-number
returns-in-Offset-clause-number c =
    let below =
    below_as c.args.nodes.now c.requires.table c.args.at c.requires.at c.index-nodes-at.result _ c.in-Offset.is in
    (below.0.some, below.0.most, below.1)
