use Rattle.fault_report.specs.Why.{of_value, another_value}
use Rattle.fault_report.proofs.value_reasons.Goals as goal

pub returns-in_default : goal.returns-in_default
returns-in_default c = record {
  why = λ space after ask has.
      rw c.new.ensures.items (another_value has (rw c.in_default.is at c.in_ok-term.ensures.none));
}

pub returns : goal.returns
returns c = record {
  why = λ space after ask has. rw c.in_ok-text.ensures
      (of_value has (rw c.in-Some.is at c.in_ok-term.ensures.term) c.in_ok-ended_text.ensures.arrays);
}
