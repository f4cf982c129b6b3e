use Rattle.memory_bounds.proofs.lengths.linked.Goals as goal

pub returns : goal.returns
returns c x h = c.both.ensures _ _ c.of_link.ensures h
