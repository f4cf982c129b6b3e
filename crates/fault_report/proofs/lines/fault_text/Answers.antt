use Rattle.fault_report.specs.Why.{tells_part, shows_part, shows_none}
use Rattle.fault_report.proofs.lines.fault_text.Goals as goal

pub returns-in_default : goal.returns-in_default
returns-in_default c =
    record { part = rw c.new.ensures (shows_none (rw c.in_default.is at c.in_ok-found.ensures.lacks)) }

pub returns : goal.returns
returns c =
    let way = rw c.in-Some.is at c.in_ok-found.ensures.way in
    let said = rw c.as_slice.ensures.value at c.in_ok-text.ensures in
    record { part = shows_part (tells_part _ way said) }
