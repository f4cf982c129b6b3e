use Rattle.std.proofs.Common.{rules, arith}
use Rattle.value_store.proofs.Empty.{empty-levels}
use Rattle.value_store.proofs.store.Store.clear.Goals as goal

pub invariant_of-self : goal.invariant_of-self
invariant_of-self c =
    record {
      levels = empty-levels _ _ _ c.clear-7.ensures c.clear.ensures.items c.clear-2.ensures.items
          c.clear-3.ensures.items c.clear-4.ensures.items c.clear-5.ensures.items c.clear-6.ensures.items;
      nodes = search rules;
      families = search rules;
      links = search rules;
      pending = search rules;
      texts = search rules;
      bytes = search rules;
      fixed = λ e. let f = c.self.invariant.fixed e in record {
        nodes = omega (arith, f.nodes, c.clear.ensures.capacity);
        families = omega (arith, f.families, c.clear-2.ensures.capacity);
        links = omega (arith, f.links, c.clear-3.ensures.capacity);
        pending = omega (arith, f.pending, c.clear-4.ensures.capacity);
        texts = omega (arith, f.texts, c.clear-5.ensures.capacity);
        bytes = omega (arith, f.bytes, c.clear-6.ensures.capacity);
      };
    }
