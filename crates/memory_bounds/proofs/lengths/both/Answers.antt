use Rattle.memory_bounds.proofs.lengths.both.Goals as goal

pub returns : goal.returns
returns c x y h g = record {
  nodes = c.sum_of.ensures _ _ h.nodes g.nodes;
  families = c.sum_of-2.ensures _ _ h.families g.families;
  links = c.sum_of-3.ensures _ _ h.links g.links;
  pending = c.sum_of-4.ensures _ _ h.pending g.pending;
  texts = c.sum_of-5.ensures _ _ h.texts g.texts;
  bytes = c.sum_of-6.ensures _ _ h.bytes g.bytes;
}
