use Rattle.std.proofs.Common.{refl}
use Rattle.pickle_types.specs.Bounds.{cost, room, least_width}
use Rattle.pickle_types.proofs.Sums.{array_sum, array_slots}
use Rattle.pickle_types.proofs.bounds.array_bounds.Goals as goal

pub returns : goal.returns
unfolding cost room least_width
returns c type h =
    let count = c.elements-count.ensures.count _ h.least in
    let steps = c.times-steps.ensures _ (c.sum_of.ensures _ _ refl h.steps) in
    let slots = c.times-slots.ensures _ (c.sum_of-2.ensures _ _ refl h.slots) in
    record {
      least = rw c.with_own.ensures.least refl;
      steps =
          array_sum _ _ _ _ _ count (c.with_own.ensures.steps _ (c.sum_of-3.ensures _ _ c.bound_weight.ensures steps));
      slots = array_slots _ _ _ _ count (c.with_own.ensures.slots _ slots);
    }
