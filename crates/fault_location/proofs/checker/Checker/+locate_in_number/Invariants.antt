use Rattle.std.proofs.Common.{◌-◌}
use Rattle.value_store.specs.Slots.{level_count}
use Rattle.fault_location.proofs.checker.Checker.+locate_in_number.Given as goal

-- each step opens a frame, and there are 65 at most
abbrev pub decreases-locate_in_number : goal.decreases-locate_in_number
decreases-locate_in_number l = 66 - level_count l.self.now.store.now
