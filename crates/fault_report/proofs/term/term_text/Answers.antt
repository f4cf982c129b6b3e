use Rattle.fault_report.specs.Why.{tells_done, tells_left, tells_output}
use Rattle.fault_report.proofs.term.term_text.Goals.{in-Done, in-Left+in_ok-text-in-Left, in-Output+in_ok-text-in-Output, in-NoSuchPart+in_ok-text-in-NoSuchPart}
use Rattle.fault_report.proofs.term.term_text.Goals as goal

pub returns-clause-term : goal.returns-clause-term
returns-clause-term c =
    elim c.match-outcome.branch [
      | in-Done w ↦ rw (w.in-Done.is, w.text-is) (tells_done w.new-text.ensures)
      | in-Left+in_ok-text-in-Left w ↦ rw (w.in-Left.is, w.text-is) (tells_left w.in_ok-text-in-Left.ensures)
      | in-Output+in_ok-text-in-Output w ↦ rw (w.in-Output.is, w.text-is) (tells_output w.in_ok-text-in-Output.ensures)
      | in-NoSuchPart+in_ok-text-in-NoSuchPart w ↦ rw (w.in-NoSuchPart.is, w.text-is) w.in_ok-text-in-NoSuchPart.ensures
    ]
