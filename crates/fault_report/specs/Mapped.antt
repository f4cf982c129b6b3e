-- The mapping whose end is explained.
use Rattle.bit_space.specs.SpaceView.{SpaceView}
use Rattle.pickle_meaning.specs.declared.faults.MapFault.{MapFault}
use Rattle.poke_batch.specs.TypeRuns.{run_type}
use Rattle.poke_batch.specs.declared.type_run.TypeRun.{TypeRun}
use Rattle.fault_report.specs.Meant.{HasFault}

-- the type of a run means a fault over a space, if the bytes of that are known
abbrev pub EndsWith : SpaceView → TypeRun → MapFault → Type 0
EndsWith space run fault = HasFault space (run_type run) run.ask.now fault
