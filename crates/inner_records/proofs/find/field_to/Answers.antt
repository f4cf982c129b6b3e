-- `field_to`: a step leads from a struct to one of its fields.
use Rattle.std.proofs.Common.{◌∙◌, length}
use Rattle.inner_records.proofs.Finding.{fields_below, other_has_no_step, struct_step}
use Rattle.inner_records.proofs.find.field_to.Goals as goal

pub returns-in-Struct-clause-is : goal.returns-in-Struct-clause-is
returns-in-Struct-clause-is c =
    c.field_among.ensures.is c.args.nodes.now
    ∙ struct_step c.args.nodes.now c.requires.table c.args.node c.requires.at _ c.args.step.now _ _ _ _ c.in-Struct.is
    c.deref.ensures.value

pub returns-in-Struct-clause-inside : goal.returns-in-Struct-clause-inside
returns-in-Struct-clause-inside c =
    c.field_among.ensures.inside (length c.args.nodes.now)
    (fields_below c.args.nodes.now c.requires.table c.args.node c.requires.at _ _ _ _ _ c.in-Struct.is
    c.deref.ensures.value)

pub returns-in_default : goal.returns-in_default
returns-in_default c = record {
  is = other_has_no_step c.args.nodes.now c.requires.table c.args.node c.requires.at _ c.args.step.now
      c.in_default.not-Struct;
  inside = tt;
}
