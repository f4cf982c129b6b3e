use Rattle.fault_report.specs.Why.{planned}
use Rattle.fault_report.proofs.lines.say_planned.Goals as goal

pub returns : goal.returns
returns c =
    record {
      arrays = rw (
        c.in_ok-text.ensures.added,
        c.as_slice-2.ensures.value,
        c.into_bytes-line.ensures,
        c.in_ok-planned_line.ensures,
      )
          (planned c.as_slice.result.now c.requires.said);
    }
