use Rattle.std.proofs.Common.{refl}
use Rattle.pickle_types.specs.Table.{type_of}
use Rattle.fault_report.specs.Ways.{here}
use Rattle.fault_report.specs.Portions.{typed}
use Rattle.fault_report.specs.declared.way.WayStep.{WayStep}
use Rattle.fault_report.proofs.Leading.{places_more, steps_on, steps_left, goes_on, goes_nowhere}
use Rattle.fault_report.proofs.way.walk.Goals as goal

-- the step of an empty list
abbrev no_step : WayStep
no_step = record { node = 0; place = 0 }

pub loop-step-init : goal.loop-step-init
loop-step-init c = (rw c.new-text.ensures here, c.requires.root, λ whole. whole)

pub loop-step-preserved : goal.loop-step-preserved
loop-step-preserved c =
    let h = c.in-Some.ensures.is c.requires.table in
    let on = steps_on c.args.nodes.now c.args.root c.loop-step.node _ c.loop-step.text.bytes.items
    c.in_ok-text-in-Some.text.bytes.items _ c.in-Some.part c.loop-step.invariant.0 refl h
    c.in_ok-text-in-Some.ensures in (
      rw (places_more c.args.steps.now c.loop-step.step-index no_step c.loop-step-test.true) on,
      h.inside,
      λ whole.
          let left = rw (steps_left c.args.steps.now c.loop-step.step-index no_step c.loop-step-test.true)
          at (c.loop-step.invariant.2 whole) in
          goes_on _ _ _ (typed (type_of c.args.nodes.now) c.in-Some.part) h.part left,
    )

pub returns-in-None-clause-lacks : goal.returns-in-None-clause-lacks
returns-in-None-clause-lacks c = λ whole.
    let left = rw (steps_left c.args.steps.now c.loop-step.step-index no_step c.loop-step-test.true)
    at (c.loop-step.invariant.2 whole) in
    goes_nowhere _ _ _ (c.in-None.ensures.lacks c.requires.table c.loop-step.invariant.1) left
