use Rattle.fault_report.proofs.Portions.{part_portion, part_past, if_none}
use Rattle.fault_report.proofs.way.portion_at.Goals as goal

pub returns : goal.returns
returns c = record {
  is = part_portion c.args.parts.now c.args.place c.in_ok-part.part.now c.joint_of.result
      c.in_ok-part.ensures.lookup.3.0 c.in_ok-part.ensures.lookup.1 c.joint_of.ensures.name c.joint_of.ensures.step;
  lacks = tt;
}

pub returns-in_err-part-clause-lacks : goal.returns-in_err-part-clause-lacks
returns-in_err-part-clause-lacks c =
    if_none c.from_residual.result (part_past c.args.parts.now c.args.place c.in_err-part.ensures.lookup.3)
