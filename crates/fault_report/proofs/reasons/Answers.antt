use Rattle.std.proofs.Common.{◌≡◌, Err, rules, refl}
use Rattle.poke_batch.specs.TypeRuns.{run_type}
use Rattle.fault_report.specs.Found.{scene_type}
use Rattle.fault_report.specs.Why.{run_of}
use Rattle.fault_report.proofs.Meant.{told_again}
use Rattle.fault_report.proofs.reasons.Goals.{in-Ok-end+in_ok-text-in-Ok-end, in-Err+in_ok-text-in-Err}
use Rattle.fault_report.proofs.reasons.Goals as goal

pub returns-clause-why : goal.returns-clause-why
returns-clause-why g c =
    let ended = run_of (g.S.Space.view c.args.space.now) (g.S.Space.view c.map_again.new.space) c.args.run.now.ask.now
    c.args.run.now.terms.now c.args.outcome in
    let type = run_type c.args.run.now in
    let found = scene_type c.in_ok-scene.scene in
    let same : found ≡ type = rw (c.in_ok-scene.ensures.nodes, c.in_ok-scene.ensures.root) refl in
    elim c.match-end.branch [
      | in-Ok-end+in_ok-text-in-Ok-end w ↦ search rules
      | in-Err+in_ok-text-in-Err w ↦
          let stopped : c.in_ok-end.field-0.end ≡ Err w.in-Err.fault = (cc) in
          rw w.text-is
          (told_again ended type found c.in_ok-end.field-0 w.in-Err.fault _ same stopped c.in_ok-end.ensures.fault
          c.in_ok-end.ensures.part c.in_ok-end.ensures.device (w.in_ok-text-in-Err.ensures.why ended.space ended.after))
    ]
