use Rattle.fault_report.specs.Why.{one_more}
use Rattle.fault_report.proofs.lines.say_last_endings.Goals as goal

pub loop-ended-init : goal.loop-ended-init
loop-ended-init c = c.requires.said

pub loop-ended-preserved : goal.loop-ended-preserved
loop-ended-preserved c = rw (c.in_ok-text.ensures.added, c.as_slice.ensures.value, c.into_bytes-line.ensures)
    (one_more c.loop-ended.invariant c.in_ok-last_line.ensures.array)
