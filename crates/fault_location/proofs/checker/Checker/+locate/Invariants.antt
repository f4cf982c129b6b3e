use Rattle.std.proofs.Common.{◌-◌}
use Rattle.value_store.specs.Slots.{level_count}
use Rattle.fault_location.proofs.checker.Checker.+locate.Given as goal

-- each step opens a frame, and there are 65 at most
abbrev pub decreases-locate : goal.decreases-locate
decreases-locate g l = 66 - level_count l.self.now.store.now
