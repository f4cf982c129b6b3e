-- `goes_on`: a list that isn't counted out goes on where an element is due.
use Rattle.std.proofs.Common.{◌∙◌, ap, sym}
use Rattle.std.specs.Prelude.{Bool, not, ◌&&◌}
use Rattle.inner_lists.specs.Calls.{listed}
use Rattle.inner_records.specs.Elements.{is_next_due}
use Rattle.inner_records.proofs.elements.Elements.goes_on.Goals as goal

pub returns-then-not-is_counted : goal.returns-then-not-is_counted
returns-then-not-is_counted c = λ nodes around.
    c.is_due.ensures nodes around
    ∙ ap (λ (b : Bool). not b && is_next_due (listed nodes around c.args.self.now.place) c.args.bits c.args.at)
    (sym c.if-not-is_counted.true ∙ c.is_counted.ensures)
