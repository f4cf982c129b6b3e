use Rattle.std.proofs.Common.{refl, ap}
use Rattle.pickle_types.specs.Table.{type_of}
use Rattle.pickle_meaning.specs.Means.{number_type}
use Rattle.mapping_plans.specs.Rows.{scalar_shape}
use Rattle.value_store.specs.Slots.{number_bits}
use Rattle.pickle_map.proofs.Elements.{not_scalar}
use Rattle.pickle_map.proofs.Mapping.{number_is}
use Rattle.pickle_map.proofs.Shapes.{opened_as, below_as}
use Rattle.pickle_map.proofs.mapper.state.Mapper.map_scalar.Goals as goal

pub unreachable-requires : goal.unreachable-requires
unreachable-requires g c =
    let opened =
    opened_as c.args.self.now.nodes.now c.args.self.now.table c.args.at c.requires.at c.index-nodes-at.result _ refl in
    not_scalar (type_of c.args.self.now.nodes.now) _ c.in_default.not-Integer c.in_default.not-Offset
    (rw opened at c.requires.scalar)

pub map_digits-requires : goal.map_digits-requires
map_digits-requires g c =
    let opened =
    opened_as c.args.self.now.nodes.now c.args.self.now.table c.args.at c.requires.at c.index-nodes-at.result
    _ c.in-Integer.is in
    let width = below_as c.args.self.now.nodes.now c.args.self.now.table c.args.at c.requires.at c.index-nodes-at.result
    _ c.in-Integer.is in
    let bits = ap (λ t. number_bits (scalar_shape t)) opened in
    record {
      at = c.requires.at;
      scalar = c.requires.scalar;
      number = ap number_type opened;
      width = width;
      bits = bits;
      inside = c.requires.inside;
      room = rw bits at c.requires.room;
    }

pub map_digits-requires-in-Offset : goal.map_digits-requires-in-Offset
map_digits-requires-in-Offset g c =
    let opened = opened_as c.args.self.now.nodes.now c.args.self.now.table c.args.at c.requires.at
    c.index-nodes-at.result _ c.in-Offset.is in
    let width = below_as c.args.self.now.nodes.now c.args.self.now.table c.args.at c.requires.at
    c.index-nodes-at.result _ c.in-Offset.is in
    let bits = ap (λ t. number_bits (scalar_shape t)) opened in
    record {
      at = c.requires.at;
      scalar = c.requires.scalar;
      number = ap number_type opened;
      width = width.0;
      bits = bits;
      inside = c.requires.inside;
      room = rw bits at c.requires.room;
    }

pub returns-in-Integer-clause-is : goal.returns-in-Integer-clause-is
returns-in-Integer-clause-is g c =
    let opened =
    opened_as c.args.self.now.nodes.now c.args.self.now.table c.args.at c.requires.at c.index-nodes-at.result
    _ c.in-Integer.is in
    rw (number_is _ _ _ _ _ _ (ap number_type opened) c.requires.inside) c.map_digits.ensures.is

pub returns-in-Offset-clause-is : goal.returns-in-Offset-clause-is
returns-in-Offset-clause-is g c =
    let opened = opened_as c.args.self.now.nodes.now c.args.self.now.table c.args.at c.requires.at
    c.index-nodes-at.result _ c.in-Offset.is in
    rw (number_is _ _ _ _ _ _ (ap number_type opened) c.requires.inside) c.map_digits-in-Offset.ensures.is
