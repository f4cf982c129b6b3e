use Rattle.std.proofs.Common.{rules, ◌+◌, drop, ◌∙◌}
use Rattle.std.proofs.lemmas.Bool.{eqb-true}
use Rattle.std.proofs.lemmas.List.{drop_more}
use Rattle.fault_parts.specs.Arises.{in_part}
use Rattle.fault_location.proofs.Steps.{path_from, path_last}
use Rattle.fault_location.proofs.checker.Checker.follow.Goals as goal

pub returns-then-is_integral-clause-is : goal.returns-then-is_integral-clause-is
returns-then-is_integral-clause-is g c =
    λ yes bytes e.
    let i = c.loop-step.invariant in
    let arises = rw (i.frame.lent.nodes, path_from c.args.path.now c.loop-step.step)
    at (c.is_in_digits.ensures.is yes bytes (i.frame.left.bytes ∙ e)) in
    i.so_far bytes e (in_part arises)

pub returns-in-There-clause-is : goal.returns-in-There-clause-is
returns-in-There-clause-is g c =
    λ yes bytes e.
    let i = c.loop-step.invariant in
    let there = rw i.frame.lent.nodes at (c.in-There.ensures.is bytes (i.frame.left.bytes ∙ e)) in
    i.so_far bytes e (rw (path_last c.args.path.now c.loop-step.step (eqb-true _ _ yes)) (in_part there))

pub loop-step-preserved : goal.loop-step-preserved
loop-step-preserved g c =
    let i = c.loop-step.invariant in
    record {
      frame = search rules;
      part = rw i.frame.lent.nodes at c.in-Part.ensures.goes_on;
      so_far = λ bytes e arises.
          let enters = rw i.frame.lent.nodes at (c.in-Part.ensures.is bytes (i.frame.left.bytes ∙ e)) in
          let inside = enters (drop (c.loop-step.step + 1) c.args.path.now) arises in
          i.so_far bytes e (rw (drop_more c.args.path.now c.loop-step.step 0 c.loop-step-test.true) (in_part inside));
    }
