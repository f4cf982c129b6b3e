use Rattle.value_store.proofs.Below.{below-more}
use Rattle.value_store.proofs.store.Store.close.Goals as goal

pub returns-clause-below : goal.returns-clause-below
returns-clause-below c =
    below-more c.args.self.now c.place_family.new.self c.lift_level.new.self c.in_ok-place_family.ensures.below
    c.lift_level.ensures.slots
