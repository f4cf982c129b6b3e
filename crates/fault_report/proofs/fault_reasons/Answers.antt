use Rattle.fault_report.specs.Found.{scene_type}
use Rattle.fault_report.specs.Why.{run_of, of_fault}
use Rattle.fault_report.proofs.Outcomes.{stopped_otherwise}
use Rattle.fault_report.proofs.Results.{of_both}
use Rattle.fault_report.proofs.fault_reasons.Goals as goal

pub returns : goal.returns
returns c = record {
  why = λ space after has kept fails.
      let run = run_of space after c.args.ask.now c.args.terms.now c.args.outcome in
      let part = c.in_ok-part.ensures.part run c.args.fault kept in
      rw c.in_ok-text.ensures (of_fault has (c.is_outcome_of.ensures.saying c.if-not-is_outcome_of.false)
      (c.is_outcome_of.ensures.faulty c.if-not-is_outcome_of.false) part c.in_ok-arrays_text.ensures.arrays);
}

pub returns-then-not-is_outcome_of : goal.returns-then-not-is_outcome_of
returns-then-not-is_outcome_of c = record {
  why = λ space after has kept fails.
      let run = run_of space after c.args.ask.now c.args.terms.now c.args.outcome in
      of_both _ _ _ (λ text empty memory. rw empty (stopped_otherwise run (scene_type c.args.scene.now) c.args.fault has
      fails memory (c.is_outcome_of.ensures.other c.if-not-is_outcome_of.true)))
      c.none_stopped.result c.none_stopped.ensures.text c.none_stopped.ensures.kind;
}
