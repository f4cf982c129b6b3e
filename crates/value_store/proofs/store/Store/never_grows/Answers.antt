use Rattle.std.proofs.Common.{rules}
use Rattle.value_store.specs.contracts.store.Store.{the_view}
use Rattle.value_store.proofs.Held.{held-fits}
use Rattle.value_store.proofs.store.Store.never_grows.Goals as goal

pub returns-in-Never-clause-fits : goal.returns-in-Never-clause-fits
returns-in-Never-clause-fits c =
    rw (← c.self.view_is) (λ e names.
    held-fits names (the_view c.self.inside) e c.self.invariant.levels (c.self.invariant.fixed e) (search rules))
