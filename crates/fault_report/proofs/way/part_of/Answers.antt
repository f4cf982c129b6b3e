use Rattle.fault_report.proofs.Portions.{if_portion_at, if_no_portion}
use Rattle.fault_report.proofs.way.part_of.Goals as goal

pub returns : goal.returns
returns c = record {
  is = λ table. if_portion_at c.args.nodes.now table c.args.step c.in_ok-get.field-0.now c.in_ok-get.ensures.lookup.3.0
      c.in_ok-get.ensures.lookup.1 c.portion_in.result c.portion_in.ensures.is;
  lacks = λ table. if_no_portion c.args.nodes.now table c.args.step c.in_ok-get.field-0.now
      c.in_ok-get.ensures.lookup.3.0 c.in_ok-get.ensures.lookup.1 c.portion_in.result c.portion_in.ensures.lacks;
}
