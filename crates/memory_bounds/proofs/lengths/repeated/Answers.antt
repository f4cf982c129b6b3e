use Rattle.std.proofs.Common.{refl}
use Rattle.memory_bounds.proofs.lengths.repeated.Goals as goal

pub returns : goal.returns
returns c x h = record {
  nodes = c.product.ensures _ _ refl h.nodes;
  families = c.product-2.ensures _ _ refl h.families;
  links = c.product-3.ensures _ _ refl h.links;
  pending = c.product-4.ensures _ _ refl h.pending;
  texts = c.product-5.ensures _ _ refl h.texts;
  bytes = c.product-6.ensures _ _ refl h.bytes;
}
