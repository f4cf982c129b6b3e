use Rattle.fault_report.proofs.LastOnes.{forgets_last}
use Rattle.fault_report.proofs.ended.Endings.forget.Goals as goal

pub returns : goal.returns
returns c = forgets_last c.args.count c.args.self.now _ (cc) c.min-self.ensures
