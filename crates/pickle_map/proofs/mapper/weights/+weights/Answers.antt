use Rattle.std.proofs.Common.{rules, ◌<◌, length, sym, ◌∙◌, arith}
use Rattle.pickle_types.specs.Table.{type_of, open_fields, open_parts}
use Rattle.mapping_plans.specs.Rows.{fields_weight, parts_weight, weight_of}
use Rattle.pickle_map.specs.Layouts.{HasPartPlace, HasPlace}
use Rattle.pickle_map.proofs.Shapes.{opened_as, below_as, fields_bounded, parts_bounded, field_bounded, part_bounded, of_one}
use Rattle.pickle_map.proofs.Weights.{fields_there, no_left, one_less, parts_there, some_left, type_some}
use Rattle.pickle_map.proofs.mapper.weights.+weights.Goals as goal

pub left_in-returns-then-left-eq0 : goal.left_in-returns-then-left-eq0
left_in-returns-then-left-eq0 t c =
    let type = type_of c.args.nodes.now c.args.at in
    sym (no_left (weight_of type) c.args.left c.if-left-eq0.true (type_some type))

pub left_in-left_in_fields-requires : goal.left_in-left_in_fields-requires
left_in-left_in_fields-requires t c =
    let below = below_as c.args.nodes.now c.requires.table c.args.at c.requires.at c.index-nodes-at.result _
    c.in-Struct.is in
    let bounded = fields_bounded c.args.at c.in-Struct.fields.items below in
    let fields = fields_there c.args.nodes.now c.args.at c.requires.at c.in-Struct.fields.items below in
    rw c.deref.ensures.value (search rules)

pub left_in-left_in_parts-requires : goal.left_in-left_in_parts-requires
left_in-left_in_parts-requires t c =
    let below = below_as c.args.nodes.now c.requires.table c.args.at c.requires.at c.index-nodes-at.result _
    c.in-Integral.is in
    let bounded = parts_bounded c.args.at c.in-Integral.fields.items below.1 in
    let parts = parts_there c.args.nodes.now c.args.at c.requires.at c.in-Integral.fields.items below.1 in
    rw c.deref-in-Integral.ensures.value (search rules)

pub left_in-returns-in-Struct : goal.left_in-returns-in-Struct
left_in-returns-in-Struct t c = rw (
  opened_as c.args.nodes.now c.requires.table c.args.at c.requires.at c.index-nodes-at.result _ c.in-Struct.is,
  ← c.deref.ensures.value,
) (c.left_in_fields.ensures ∙ sym (one_less (fields_weight (open_fields (type_of c.args.nodes.now) c.deref.result.now))
    c.args.left (omega (arith, c.if-left-eq0.false))))

pub left_in-returns-in-Integral : goal.left_in-returns-in-Integral
left_in-returns-in-Integral t c = rw (
  opened_as c.args.nodes.now c.requires.table c.args.at c.requires.at c.index-nodes-at.result _ c.in-Integral.is,
  ← c.deref-in-Integral.ensures.value,
) (c.left_in_parts.ensures
    ∙ sym (one_less (parts_weight (open_parts (type_of c.args.nodes.now) c.deref-in-Integral.result.now))
    c.args.left (omega (arith, c.if-left-eq0.false))))

pub left_in-returns-in-Integer : goal.left_in-returns-in-Integer
left_in-returns-in-Integer t c =
    rw (opened_as c.args.nodes.now c.requires.table c.args.at c.requires.at c.index-nodes-at.result _ c.in-Integer.is)
    (sym (some_left 1 c.args.left (omega (arith, c.if-left-eq0.false))))

pub left_in-returns-in-Offset : goal.left_in-returns-in-Offset
left_in-returns-in-Offset t c =
    rw (opened_as c.args.nodes.now c.requires.table c.args.at c.requires.at c.index-nodes-at.result _ c.in-Offset.is)
    (sym (some_left 1 c.args.left (omega (arith, c.if-left-eq0.false))))

pub left_in-returns-in-String : goal.left_in-returns-in-String
left_in-returns-in-String t c =
    rw (opened_as c.args.nodes.now c.requires.table c.args.at c.requires.at c.index-nodes-at.result _ c.in-String.is)
    (sym (some_left 1 c.args.left (omega (arith, c.if-left-eq0.false))))

pub left_in-returns-in-Array : goal.left_in-returns-in-Array
left_in-returns-in-Array t c =
    rw (opened_as c.args.nodes.now c.requires.table c.args.at c.requires.at c.index-nodes-at.result _ c.in-Array.is)
    (sym (some_left 1 c.args.left (omega (arith, c.if-left-eq0.false))))

pub left_in-returns-in-Union : goal.left_in-returns-in-Union
left_in-returns-in-Union t c =
    rw (opened_as c.args.nodes.now c.requires.table c.args.at c.requires.at c.index-nodes-at.result _ c.in-Union.is)
    (sym (some_left 1 c.args.left (omega (arith, c.if-left-eq0.false))))

pub left_in_fields-left_in-requires : goal.left_in_fields-left_in-requires
left_in_fields-left_in-requires t c =
    let inside : c.loop-field.field-index < length c.args.fields.now = omega (arith, c.loop-field-test.true) in
    let below = field_bounded c.args.fields.now c.loop-field.field-index c.field-item.result inside c.field-item.is in
    let place = of_one (HasPlace c.args.nodes.now 0) c.args.fields.now c.loop-field.field-index c.field-item.result
    c.requires.fields inside c.field-item.is in
    search rules

pub left_in_parts-left_in-requires : goal.left_in_parts-left_in-requires
left_in_parts-left_in-requires t c =
    let inside : c.loop-part.part-index < length c.args.parts.now = omega (arith, c.loop-part-test.true) in
    let below = part_bounded c.args.parts.now c.loop-part.part-index c.part-item.result inside c.part-item.is in
    let place = of_one (HasPartPlace c.args.nodes.now 0) c.args.parts.now c.loop-part.part-index c.part-item.result
    c.requires.parts inside c.part-item.is in
    search rules
