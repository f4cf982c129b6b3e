use Rattle.memory_bounds.proofs.lengths.of_elements.Goals as goal

pub returns : goal.returns
returns c x h = c.both.ensures _ _ c.of_family.ensures (c.repeated.ensures _ (c.linked.ensures _ h))
