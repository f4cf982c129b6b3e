use Rattle.std.proofs.Common.{◌≡◌, sym, ap, subst, ◌∙◌, arith, length}
use Rattle.pickle_types.specs.Table.{name_of, type_of, open_fields, open_parts}
use Rattle.mapping_plans.specs.Rows.{element_layout, row_of, struct_row}
use Rattle.pickle_map.specs.Packings.{AreColumnsOf}
use Rattle.pickle_map.proofs.KeptKinds.{laid_packing_is, struct_columns}
use Rattle.pickle_map.proofs.Shapes.{opened_as}
use Rattle.pickle_map.proofs.Sizes.{struct_keeps, integral_keeps}
use Rattle.pickle_map.proofs.mapper.packings.packing_of.Goals as goal

pub returns-in-Integer : goal.returns-in-Integer
returns-in-Integer c = ap row_of
    (opened_as c.args.nodes.now c.requires.table c.args.element c.requires.element c.index-nodes-element.result _
    c.in-Integer.is)

pub returns-in-Offset : goal.returns-in-Offset
returns-in-Offset c = ap row_of
    (opened_as c.args.nodes.now c.requires.table c.args.element c.requires.element c.index-nodes-element.result _
    c.in-Offset.is)

pub returns-in-Some : goal.returns-in-Some
returns-in-Some c =
    let nodes = c.args.nodes.now in
    let opened = opened_as nodes c.requires.table c.args.element c.requires.element c.index-nodes-element.result _
    c.in-Struct.is in
    let fields = open_fields (type_of nodes) c.in-Struct.fields.items in
    let count : length c.deref.result.now ≡ c.len.result = omega (arith, c.deref.ensures.len, c.len.ensures) in
    let columns = rw c.deref.ensures.value
    at (subst (λ n. AreColumnsOf (struct_row c.in-Struct.pinned (open_fields (type_of nodes) c.deref.result.now)) n
    c.in-Some.stride) count c.in-Some.ensures) in
    subst (λ t. AreColumnsOf (row_of t) c.len.result c.in-Some.stride) (sym opened)
    (struct_columns (name_of c.in-Struct.name) c.in-Struct.pinned fields _ _ columns)

pub returns-in-None : goal.returns-in-None
returns-in-None c =
    let nodes = c.args.nodes.now in
    let opened = opened_as nodes c.requires.table c.args.element c.requires.element c.index-nodes-element.result _
    c.in-Struct.is in
    let row = rw c.deref.ensures.value at c.in-None.ensures in
    let type = type_of nodes c.args.element in
    laid_packing_is c.laid_packing.result type (ap row_of opened
    ∙ struct_keeps (name_of c.in-Struct.name) c.in-Struct.pinned (open_fields (type_of nodes) c.in-Struct.fields.items)
    (element_layout type) row (sym (ap element_layout opened))) c.laid_packing.ensures

pub returns-in-Integral : goal.returns-in-Integral
returns-in-Integral c =
    let nodes = c.args.nodes.now in
    let opened = opened_as nodes c.requires.table c.args.element c.requires.element c.index-nodes-element.result _
    c.in-Integral.is in
    let type = type_of nodes c.args.element in
    laid_packing_is c.laid_packing-in-Integral.result type (ap row_of opened
    ∙ integral_keeps (name_of c.in-Integral.name) c.in-Integral.number
    (open_parts (type_of nodes) c.in-Integral.fields.items) (element_layout type) (sym (ap element_layout opened)))
    c.laid_packing-in-Integral.ensures

pub returns-in-String : goal.returns-in-String
returns-in-String c = ap row_of
    (opened_as c.args.nodes.now c.requires.table c.args.element c.requires.element c.index-nodes-element.result _
    c.in-String.is)

pub returns-in-Array : goal.returns-in-Array
returns-in-Array c = ap row_of
    (opened_as c.args.nodes.now c.requires.table c.args.element c.requires.element c.index-nodes-element.result _
    c.in-Array.is)

pub returns-in-Union : goal.returns-in-Union
returns-in-Union c = ap row_of
    (opened_as c.args.nodes.now c.requires.table c.args.element c.requires.element c.index-nodes-element.result _
    c.in-Union.is)
