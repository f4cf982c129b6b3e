use Rattle.std.proofs.Common.{◌≡◌, None, map, take}
use Rattle.jobs.specs.Installed.{first_unread, installed_pickle}
use Rattle.jobs.proofs.installed.first_unread.Given as goal

abbrev pub invariant-loop-one : goal.invariant-loop-one
invariant-loop-one l = first_unread (map installed_pickle (take l.one-index l.installed)) ≡ None
