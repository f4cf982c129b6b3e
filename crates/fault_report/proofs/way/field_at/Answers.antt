use Rattle.fault_report.proofs.Portions.{field_portion, field_past, if_none}
use Rattle.fault_report.proofs.way.field_at.Goals as goal

pub returns : goal.returns
returns c = record {
  is = field_portion c.args.fields.now c.args.place c.in_ok-field.field.now c.joint_of.result
      c.in_ok-field.ensures.lookup.3.0 c.in_ok-field.ensures.lookup.1 c.joint_of.ensures.name c.joint_of.ensures.step;
  lacks = tt;
}

pub returns-in_err-field-clause-lacks : goal.returns-in_err-field-clause-lacks
returns-in_err-field-clause-lacks c =
    if_none c.from_residual.result (field_past c.args.fields.now c.args.place c.in_err-field.ensures.lookup.3)
