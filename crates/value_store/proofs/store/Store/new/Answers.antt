use Rattle.std.proofs.Common.{rules}
use Rattle.value_store.proofs.Empty.{empty-levels}
use Rattle.value_store.proofs.store.Store.new.Goals as goal

pub invariant_of-result : goal.invariant_of-result
invariant_of-result c =
    record {
      levels = empty-levels _ _ _ c.new-7.ensures c.new.ensures.items c.new-2.ensures.items c.new-3.ensures.items
          c.new-4.ensures.items c.new-5.ensures.items c.new-6.ensures.items;
      nodes = search rules;
      families = search rules;
      links = search rules;
      pending = search rules;
      texts = search rules;
      bytes = search rules;
      fixed = λ e. cc;
    }
