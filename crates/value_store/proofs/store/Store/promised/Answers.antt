use Rattle.value_store.specs.contracts.store.Store.{the_view}
use Rattle.value_store.proofs.Promises.{promise-held, promise-fixed}
use Rattle.value_store.proofs.store.Store.promised.Goals as goal

pub returns-clause-held : goal.returns-clause-held
returns-clause-held c = rw (← c.self.view_is) (promise-held (the_view c.self.inside) c.self.invariant)

pub returns-clause-fixed : goal.returns-clause-fixed
returns-clause-fixed c = rw (← c.self.view_is) (promise-fixed (the_view c.self.inside) c.self.invariant)
