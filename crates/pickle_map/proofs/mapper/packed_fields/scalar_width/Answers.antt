use Rattle.std.proofs.Common.{refl, sym, ap, ◌∙◌}
use Rattle.pickle_types.specs.Table.{type_of}
use Rattle.mapping_plans.specs.Rows.{scalar_width}
use Rattle.pickle_map.proofs.Elements.{no_scalar}
use Rattle.pickle_map.proofs.Shapes.{opened_as}
use Rattle.pickle_map.proofs.mapper.packed_fields.scalar_width.Goals as goal

pub returns-in-Integer : goal.returns-in-Integer
returns-in-Integer c = sym (ap scalar_width
    (opened_as c.args.nodes.now c.requires.table c.args.at c.requires.at c.index-nodes-at.result _ c.in-Integer.is))

pub returns-in-Offset : goal.returns-in-Offset
returns-in-Offset c = sym (ap scalar_width
    (opened_as c.args.nodes.now c.requires.table c.args.at c.requires.at c.index-nodes-at.result _ c.in-Offset.is))

pub returns-in_default : goal.returns-in_default
returns-in_default c = sym (ap scalar_width
    (opened_as c.args.nodes.now c.requires.table c.args.at c.requires.at c.index-nodes-at.result _ refl)
    ∙ no_scalar (type_of c.args.nodes.now) _ c.in_default.not-Integer c.in_default.not-Offset)
