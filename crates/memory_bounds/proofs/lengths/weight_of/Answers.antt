use Rattle.std.proofs.Common.{refl}
use Rattle.memory_bounds.proofs.lengths.weight_of.Goals as goal

pub returns : goal.returns
returns c x h =
    let values =
    c.sum_of-values.ensures _ _ (c.product.ensures _ _ refl h.nodes) (c.product-2.ensures _ _ refl h.families) in
    let parts = c.sum_of-parts.ensures _ _ (c.sum_of.ensures _ _ values (c.product-3.ensures _ _ refl h.links))
    (c.product-4.ensures _ _ refl h.pending) in
    c.sum_of-3.ensures _ _ (c.sum_of-2.ensures _ _ parts (c.product-5.ensures _ _ refl h.texts)) h.bytes
