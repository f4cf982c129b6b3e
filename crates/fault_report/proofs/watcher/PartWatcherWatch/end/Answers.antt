-- What was stored stays once it is noted that no allocation failed.
use Rattle.fault_report.proofs.Noted.{ends_noted, was_done}
use Rattle.fault_report.proofs.watcher.PartWatcherWatch.end.Goals as goal

pub returns-clause-ends : goal.returns-clause-ends
returns-clause-ends c = λ starved. ends_noted _ _ _ _
    (was_done c.keep_ended-kept.result _ _ c.keep_ended-kept.ensures.ends c.note.ensures.starved starved)
    c.note.ensures.stays
