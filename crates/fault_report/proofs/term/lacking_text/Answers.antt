use Rattle.fault_report.specs.Why.{tells_part, tells_selected, requests_none}
use Rattle.fault_report.proofs.Results.{of_all, of_each}
use Rattle.fault_report.proofs.term.lacking_text.Goals as goal

pub returns-in-Some : goal.returns-in-Some
returns-in-Some c = of_all _ (λ text. tells_selected c.in-Some.is) c.selected_text.result

pub returns-in-Some-part : goal.returns-in-Some-part
returns-in-Some-part c =
    of_each _ _ (λ text missing. tells_part c.in-Some-part.is missing) c.missing_text.result c.missing_text.ensures

pub returns-in-None-part : goal.returns-in-None-part
returns-in-None-part c = requests_none c.in-None-part.is c.in-None.is
