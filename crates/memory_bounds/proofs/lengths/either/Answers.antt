use Rattle.memory_bounds.proofs.lengths.either.Goals as goal

pub returns : goal.returns
returns c x y h g = record {
  nodes = c.greater_of.ensures _ _ h.nodes g.nodes;
  families = c.greater_of-2.ensures _ _ h.families g.families;
  links = c.greater_of-3.ensures _ _ h.links g.links;
  pending = c.greater_of-4.ensures _ _ h.pending g.pending;
  texts = c.greater_of-5.ensures _ _ h.texts g.texts;
  bytes = c.greater_of-6.ensures _ _ h.bytes g.bytes;
}
