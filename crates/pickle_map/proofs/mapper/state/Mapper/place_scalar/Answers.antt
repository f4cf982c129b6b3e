use Rattle.std.proofs.Common.{refl}
use Rattle.pickle_types.specs.Table.{type_of}
use Rattle.pickle_map.proofs.Elements.{not_scalar}
use Rattle.pickle_map.proofs.Shapes.{opened_as, below_as}
use Rattle.pickle_map.proofs.mapper.state.Mapper.place_scalar.Goals as goal

pub place_integer-requires-clause-digits : goal.place_integer-requires-clause-digits
place_integer-requires-clause-digits g c = rw (opened_as c.args.self.now.nodes.now c.args.self.now.table c.args.at
    c.requires.at c.index-nodes-at.result _ c.in-Integer.is) at c.requires.digits

pub place_offset-requires-clause-width : goal.place_offset-requires-clause-width
place_offset-requires-clause-width g c =
    (below_as c.args.self.now.nodes.now c.args.self.now.table c.args.at c.requires.at
    c.index-nodes-at.result _ c.in-Offset.is).0

pub place_offset-requires-clause-unit : goal.place_offset-requires-clause-unit
place_offset-requires-clause-unit g c =
    (below_as c.args.self.now.nodes.now c.args.self.now.table c.args.at c.requires.at
    c.index-nodes-at.result _ c.in-Offset.is).1

pub place_offset-requires-clause-digits : goal.place_offset-requires-clause-digits
place_offset-requires-clause-digits g c = rw (opened_as c.args.self.now.nodes.now c.args.self.now.table c.args.at
    c.requires.at c.index-nodes-at.result _ c.in-Offset.is) at c.requires.digits

pub unreachable-requires : goal.unreachable-requires
unreachable-requires g c =
    let opened =
    opened_as c.args.self.now.nodes.now c.args.self.now.table c.args.at c.requires.at c.index-nodes-at.result _ refl in
    not_scalar (type_of c.args.self.now.nodes.now) _ c.in_default.not-Integer c.in_default.not-Offset
    (rw opened at c.requires.scalar)

pub returns-in-Integer-clause-is : goal.returns-in-Integer-clause-is
returns-in-Integer-clause-is g c = rw (opened_as c.args.self.now.nodes.now c.args.self.now.table c.args.at c.requires.at
    c.index-nodes-at.result _ c.in-Integer.is) c.place_integer.ensures.is

pub returns-in-Integer-clause-adds : goal.returns-in-Integer-clause-adds
returns-in-Integer-clause-adds g c =
    rw (opened_as c.args.self.now.nodes.now c.args.self.now.table c.args.at c.requires.at
    c.index-nodes-at.result _ c.in-Integer.is) c.place_integer.ensures.adds

pub returns-in-Offset-clause-is : goal.returns-in-Offset-clause-is
returns-in-Offset-clause-is g c = rw (opened_as c.args.self.now.nodes.now c.args.self.now.table c.args.at c.requires.at
    c.index-nodes-at.result _ c.in-Offset.is) c.place_offset.ensures.is

pub returns-in-Offset-clause-adds : goal.returns-in-Offset-clause-adds
returns-in-Offset-clause-adds g c =
    rw (opened_as c.args.self.now.nodes.now c.args.self.now.table c.args.at c.requires.at
    c.index-nodes-at.result _ c.in-Offset.is) c.place_offset.ensures.adds
