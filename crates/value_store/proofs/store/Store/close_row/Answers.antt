use Rattle.std.proofs.Common.{◌≡◌, [], ◌∷◌, Some, ◌∙◌}
use Rattle.value_store.specs.Slots.{levels, row_value}
use Rattle.value_store.proofs.PackedRows.{lifted-row}
use Rattle.value_store.proofs.Below.{below-more}
use Rattle.value_store.proofs.store.Store.close_row.Goals as goal

pub returns-clause-ok : goal.returns-clause-ok
returns-clause-ok c = λ names numbers outer w.
    let e : levels names c.settle_row.new.self ≡ (Some (row_value c.args.shape numbers c.args.start) ∷ []) ∷ outer =
    c.in_ok-settle_row.ensures.ok names numbers outer w in
    c.lift_level.ensures.levels names
    ∙ lifted-row c.args.shape numbers c.args.start outer (levels names c.settle_row.new.self) e

pub returns-clause-below : goal.returns-clause-below
returns-clause-below c =
    below-more c.args.self.now c.settle_row.new.self c.lift_level.new.self c.in_ok-settle_row.ensures.below
    c.lift_level.ensures.slots
