use Rattle.std.proofs.Common.{◌≡◌, subst, sym}
use Rattle.value_store.specs.contracts.store.Store.{the_view}
use Rattle.value_store.specs.Promises.{least_capacity}
use Rattle.value_store.specs.Slots.{Held, emptied}
use Rattle.value_store.proofs.Promises.{all-holds}
use Rattle.value_store.proofs.store.Store.promise_capacity.Goals as goal

pub invariant_of-self : goal.invariant_of-self
invariant_of-self c =
    let slots = c.least_capacity-self-inside.result in
    all-holds slots (the_view c.self.inside)
    (subst (λ (h : Held). h ≡ emptied h) (sym c.self.view_is) c.requires.empty)
    (subst (λ (h : Held). slots ≡ least_capacity h.capacity) (sym c.self.view_is) c.least_capacity-self-inside.ensures)
    c.self.invariant
