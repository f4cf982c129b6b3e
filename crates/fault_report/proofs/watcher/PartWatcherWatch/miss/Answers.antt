-- What was stored stays once it is noted that no allocation failed.
use Rattle.fault_report.proofs.Noted.{miss_noted, was_done}
use Rattle.fault_report.proofs.watcher.PartWatcherWatch.miss.Goals as goal

pub returns-clause-misses : goal.returns-clause-misses
returns-clause-misses c = λ shown starved. miss_noted _ _ _ _
    (was_done c.keep_miss-kept.result _ _ c.keep_miss-kept.ensures.misses c.note.ensures.starved starved)
    c.note.ensures.stays
