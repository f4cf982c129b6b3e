use Rattle.fault_report.specs.Why.{one_more, uncounted}
use Rattle.fault_report.proofs.lines.say_endings.Goals as goal

pub loop-ended-init : goal.loop-ended-init
loop-ended-init c = c.requires.said

pub loop-ended-preserved : goal.loop-ended-preserved
loop-ended-preserved c = rw (c.in_ok-text.ensures.added, c.as_slice.ensures.value, c.into_bytes-line.ensures)
    (one_more c.loop-ended.invariant c.in_ok-array_line.ensures.array)

pub returns-in_ok-text-in-Some : goal.returns-in_ok-text-in-Some
returns-in_ok-text-in-Some c =
    record {
      arrays = rw (
        c.in_ok-text-in-Some.ensures.added,
        c.as_slice-in-Some-2.ensures.value,
        c.into_bytes-line-in-Some.ensures,
        c.in_ok-more_line-in-Some.ensures,
      )
          (uncounted c.as_slice-in-Some.result.now c.loop-ended.invariant);
    }
