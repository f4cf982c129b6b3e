-- The frames of the store of a checker, by the names of its table.
use Rattle.pickle_meaning.specs.Values.{Levels}
use Rattle.value_store.specs.Slots.{levels}
use Rattle.fault_location.specs.declared.checker.Checker.{Checker}

-- in a state, and after a call that began in that state
abbrev pub frames_of : Checker → Levels
frames_of checker = levels checker.nodes.now checker.store.now

abbrev pub frames_after : (old new : Checker) → Levels
frames_after old new = levels old.nodes.now new.store.now
