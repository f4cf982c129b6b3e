use Rattle.std.proofs.Common.{arith}
use Rattle.pickle_types.specs.TypeTable.{nodes_of}
use Rattle.poke_batch.specs.TypeRuns.{run_type}
use Rattle.fault_report.proofs.Kept.{earlier_kept, later_fault}
use Rattle.fault_report.proofs.Meant.{fault_meant, value_meant}
use Rattle.fault_report.proofs.again.map_again.Goals.{in-Ok, in-Err+in_ok-fault-in-Err}
use Rattle.fault_report.proofs.again.map_again.Goals as goal

pub returns-clause-fault : goal.returns-clause-fault
returns-clause-fault g c =
    fault_meant (g.S.Space.view c.args.space.now) (run_type c.args.run.now) c.args.run.now.ask.now _ _ _
    (omega (arith, c.new-meter.ensures.limit, c.new-meter.ensures.steps)) c.map_watched-end.result
    c.map_watched-end.ensures.fault

pub returns-clause-value : goal.returns-clause-value
returns-clause-value g c =
    value_meant (g.S.Space.view c.args.space.now) (run_type c.args.run.now) c.args.run.now.ask.now _ _ _
    (omega (arith, c.new-meter.ensures.limit, c.new-meter.ensures.steps)) (nodes_of c.args.run.now.table.now) _
    c.map_watched-end.result c.map_watched-end.ensures.value

-- the fault that the mapping had is the one that the type means, in the space as that mapping left it
pub part_with-requires-clause-meant : goal.part_with-requires-clause-meant
part_with-requires-clause-meant g c =
    let had = fault_meant (g.S.Space.view c.args.space.now) (run_type c.args.run.now) c.args.run.now.ask.now _ _ _
    (omega (arith, c.new-meter.ensures.limit, c.new-meter.ensures.steps)) c.map_watched-end.result
    c.map_watched-end.ensures.fault in
    let had = rw c.in-Err.is at had in
    later_fault (g.S.Space.view c.args.space.now) (g.S.Space.view c.map_watched-end.new.space)
    c.map_watched-end.ensures.bytes (run_type c.args.run.now) c.args.run.now.ask.now c.in-Err.stopped had

pub returns-clause-part : goal.returns-clause-part
returns-clause-part g c =
    let type = run_type c.args.run.now in
    let ask = c.args.run.now.ask.now in
    elim c.match-end.branch [
      | in-Ok w ↦ rw w.in-Ok.is tt
      | in-Err+in_ok-fault-in-Err w ↦ rw (w.in-Err.is, w.space-is, w.fault2-is)
          (earlier_kept (g.S.Space.view c.args.space.now) (g.S.Space.view c.map_watched-end.new.space)
          c.map_watched-end.ensures.bytes (g.S.Space.view w.part_with.new.space) c.map_watched-end.ensures.failures
          w.part_with.ensures.keeps.failures type ask w.in-Err.stopped w.in_ok-fault-in-Err.fault
          w.in_ok-fault-in-Err.ensures.part)
    ]
