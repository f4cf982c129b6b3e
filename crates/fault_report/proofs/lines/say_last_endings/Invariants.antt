-- The lines so far are lines on arrays.
use Rattle.fault_report.specs.Found.{scene_type}
use Rattle.fault_report.specs.Why.{TellsArrays}
use Rattle.fault_report.proofs.lines.say_last_endings.Given as goal

abbrev pub invariant-loop-ended : goal.invariant-loop-ended
invariant-loop-ended l = TellsArrays (scene_type l.scene) l.text.bytes.items
