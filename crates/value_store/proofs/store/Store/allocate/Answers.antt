use Rattle.std.proofs.Common.{rules}
use Rattle.value_store.proofs.Empty.{empty-levels}
use Rattle.value_store.proofs.store.Store.allocate.Goals as goal

pub invariant_of-result : goal.invariant_of-result
invariant_of-result c =
    record {
      levels = empty-levels _ _ _ c.new.ensures (search rules) (search rules) (search rules) (search rules)
          (search rules) (search rules);
      nodes = search rules;
      families = search rules;
      links = search rules;
      pending = search rules;
      texts = search rules;
      bytes = search rules;
      fixed = λ e. record {
        nodes = search rules;
        families = search rules;
        links = search rules;
        pending = search rules;
        texts = search rules;
        bytes = search rules;
      };
    }
