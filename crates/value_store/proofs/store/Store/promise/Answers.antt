use Rattle.std.proofs.Common.{◌≡◌, ◌≤◌, subst, sym}
use Rattle.value_store.specs.declared.store.room.Growth.TheVariants.{Never}
use Rattle.value_store.specs.contracts.store.Store.{the_view}
use Rattle.value_store.specs.Slots.{Held}
use Rattle.value_store.proofs.Promises.{fewer-holds}
use Rattle.value_store.proofs.store.Store.promise.Goals as goal

pub invariant_of-self : goal.invariant_of-self
invariant_of-self c = fewer-holds c.args.slots (the_view c.self.inside)
    (subst (λ (h : Held). c.args.slots ≤ h.room.least) (sym c.self.view_is) c.requires.fewer)
    (subst (λ (h : Held). h.room.growth ≡ Never → c.args.slots ≡ h.room.least) (sym c.self.view_is) c.requires.fixed)
    c.self.invariant
