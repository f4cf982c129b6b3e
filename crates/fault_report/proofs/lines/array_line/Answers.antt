use Rattle.fault_report.specs.Why.{no_array, tells_array, tells_value}
use Rattle.fault_report.proofs.lines.array_line.Goals as goal

pub returns-in_default : goal.returns-in_default
returns-in_default c = record { array = rw c.new.ensures no_array }

pub returns-in_default-2 : goal.returns-in_default-2
returns-in_default-2 c = record { array = rw c.new-in_default-2.ensures no_array }

pub returns : goal.returns
returns c =
    let way = rw c.in-Some.is at c.in_ok-array.ensures.way in
    let said = rw c.as_slice-2.ensures.value at c.in_ok-text.ensures in
    record { array = tells_array _ way said }

pub returns-then-is_value : goal.returns-then-is_value
returns-then-is_value c = record { array = tells_value _ c.in_ok-line.ensures }
