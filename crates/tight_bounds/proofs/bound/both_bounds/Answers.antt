use Rattle.tight_bounds.specs.Tight.{tight, tight_slots}
use Rattle.tight_bounds.proofs.bound.both_bounds.Goals as goal

pub returns : goal.returns
unfolding tight tight_slots
returns c =
    let bounds = c.in_ok-bounds.ensures in
    let grains = c.in_ok-grains.ensures in
    let tight = c.lesser_of-tight_steps.ensures _ _ bounds.steps
    (c.steps_of.ensures _ (c.tried.ensures _ _ grains.attempt grains.rate)) in
    record {
      steps = bounds.steps;
      slots = bounds.slots;
      tight_steps = tight;
      tight_slots = c.lesser_of-tight_slots.ensures _ _ bounds.slots tight;
    }
