use Rattle.std.proofs.Common.{map, take}
use Rattle.jobs.specs.Installed.{AreSources, installed_pickle, read_among}
use Rattle.jobs.proofs.installed.sources_of.Given as goal

abbrev pub invariant-loop-one : goal.invariant-loop-one
invariant-loop-one l = AreSources (read_among (map installed_pickle (take l.one-index l.installed))) l.sources.items
