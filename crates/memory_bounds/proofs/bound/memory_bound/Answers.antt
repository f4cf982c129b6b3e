use Rattle.memory_bounds.proofs.bound.memory_bound.Goals as goal

pub returns : goal.returns
returns c = c.weight_of.ensures _ c.in_ok-capacity.ensures.packed
