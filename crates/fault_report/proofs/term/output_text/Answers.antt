use Rattle.fault_report.specs.Why.{of_size, of_missing}
use Rattle.fault_report.proofs.Results.{of_each}
use Rattle.fault_report.proofs.term.output_text.Goals as goal

pub returns-in_default : goal.returns-in_default
returns-in_default c = of_each _ _ (λ text size. of_size size) c.size_text.result c.size_text.ensures

pub returns-in-Some-part_of : goal.returns-in-Some-part_of
returns-in-Some-part_of c =
    of_each _ _ (λ text size. of_size size) c.size_text-in-Some-part_of.result c.size_text-in-Some-part_of.ensures

pub returns-in-None : goal.returns-in-None
returns-in-None c =
    of_each _ _ (λ text missing. of_missing c.in-Some.is missing) c.missing_text.result c.missing_text.ensures
