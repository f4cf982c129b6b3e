use Rattle.std.proofs.Common.{refl, sym, ap, ◌∙◌}
use Rattle.std.proofs.lemmas.Bool.{false≢true}
use Rattle.pickle_types.specs.Types.{StructOf, IntegralOf}
use Rattle.pickle_types.specs.Table.{name_of, type_of, open_fields, open_parts}
use Rattle.mapping_plans.specs.Rows.{element_layout, row_of}
use Rattle.pickle_map.proofs.Elements.{apart_shape}
use Rattle.pickle_map.proofs.KeptKinds.{are_records, structs_apart, wholes_apart}
use Rattle.pickle_map.proofs.RecordTypes.{record_type}
use Rattle.pickle_map.proofs.Shapes.{opened_as, below_as}
use Rattle.pickle_map.proofs.mapper.packed_numbers.packing_of.Goals as goal

pub returns-in-Integer-clause-is : goal.returns-in-Integer-clause-is
returns-in-Integer-clause-is c =
    let below = below_as c.args.nodes.now c.requires.table c.args.element c.requires.element
    c.index-nodes-element.result _ c.in-Integer.is in
    record {
      packed = (below.some, below.most);
      is = opened_as c.args.nodes.now c.requires.table c.args.element c.requires.element
          c.index-nodes-element.result _ c.in-Integer.is;
      packs = sym c.packs.ensures ∙ c.if-not-packs.false;
    }

pub returns-in-Offset-clause-is : goal.returns-in-Offset-clause-is
returns-in-Offset-clause-is c =
    let below = below_as c.args.nodes.now c.requires.table c.args.element c.requires.element
    c.index-nodes-element.result _ c.in-Offset.is in
    record {
      packed = (below.0.some, below.0.most, below.1);
      is = opened_as c.args.nodes.now c.requires.table c.args.element c.requires.element
          c.index-nodes-element.result _ c.in-Offset.is;
      packs = sym c.packs.ensures ∙ c.if-not-packs.false;
    }

pub returns-then-not-packs-clause-is : goal.returns-then-not-packs-clause-is
returns-then-not-packs-clause-is c =
    λ packing. absurd (false≢true (sym c.if-not-packs.true ∙ c.packs.ensures ∙ packing))

pub returns-in-Apart-clause-is : goal.returns-in-Apart-clause-is
returns-in-Apart-clause-is c = λ packing.
    let nodes = c.args.nodes.now in
    let opened = opened_as nodes c.requires.table c.args.element c.requires.element c.index-nodes-element.result _
    c.in-Struct.is in
    let type = StructOf (name_of c.in-Struct.name) c.in-Struct.pinned
    (open_fields (type_of nodes) c.in-Struct.fields.items) in
    let right = rw (c.in-Apart.is, opened) at c.kind_of.ensures.is in
    ap row_of opened
    ∙ structs_apart c.in-Struct.pinned (open_fields (type_of nodes) c.in-Struct.fields.items)
    (element_layout type) right

pub returns-in-Records-clause-is : goal.returns-in-Records-clause-is
returns-in-Records-clause-is c =
    let row = are_records _ (rw c.in-Records.is at c.kind_of.ensures.is) in (
      record_type c.args.nodes.now c.requires.table c.args.element c.requires.element c.index-nodes-element.result _ _ _
          _ row.0 c.in-Struct.is c.deref.ensures.value row.1,
      sym c.packs.ensures ∙ c.if-not-packs.false,
    )

pub returns-in_default-clause-is : goal.returns-in_default-clause-is
returns-in_default-clause-is c = λ packing.
    let opened =
    opened_as c.args.nodes.now c.requires.table c.args.element c.requires.element c.index-nodes-element.result _ refl in
    ap row_of opened
    ∙ apart_shape (type_of c.args.nodes.now) _ c.in_default.not-Integer c.in_default.not-Offset c.in_default.not-Struct
    c.in_default.not-Integral

pub returns-in_default-kind_of-clause-is : goal.returns-in_default-kind_of-clause-is
returns-in_default-kind_of-clause-is c = λ packing.
    let nodes = c.args.nodes.now in
    let opened = opened_as nodes c.requires.table c.args.element c.requires.element c.index-nodes-element.result _
    c.in-Integral.is in
    let type = IntegralOf (name_of c.in-Integral.name) c.in-Integral.number
    (open_parts (type_of nodes) c.in-Integral.fields.items) in
    let right = rw opened at c.kind_of-in-Integral.ensures.is in
    ap row_of opened
    ∙ wholes_apart (element_layout type) c.kind_of-in-Integral.result c.in_default-kind_of.not-Values right
