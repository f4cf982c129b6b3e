use Rattle.std.proofs.Common.{◌≡◌, ◌∙◌}
use Rattle.value_store.specs.Slots.{levels}
use Rattle.pickle_meaning.specs.Values.{text_level}
use Rattle.value_store.proofs.Writing.{lifted-text}
use Rattle.value_store.proofs.Below.{below-more}
use Rattle.value_store.proofs.store.Store.close_text.Goals as goal

pub returns-clause-ok : goal.returns-clause-ok
returns-clause-ok c = λ names bytes outer w.
    let e : levels names c.settle_text.new.self ≡ text_level bytes c.args.start outer =
    c.in_ok-settle_text.ensures.ok names bytes outer w in
    c.lift_level.ensures.levels names ∙ lifted-text bytes c.args.start outer (levels names c.settle_text.new.self) e

pub returns-clause-below : goal.returns-clause-below
returns-clause-below c =
    below-more c.args.self.now c.settle_text.new.self c.lift_level.new.self c.in_ok-settle_text.ensures.below
    c.lift_level.ensures.slots
