-- `element_end`: the list ends as its extent and the greatest end before it say.
use Rattle.std.proofs.Common.{◌∙◌, []}
use Rattle.pickle_meaning.specs.Values.{no_values}
use Rattle.inner_lists.specs.Calls.{listed}
use Rattle.inner_records.proofs.Mapping.{same_end}
use Rattle.inner_records.proofs.next.element_end.Goals as goal

pub returns-then-ends-clause-dropped : goal.returns-then-ends-clause-dropped
returns-then-ends-clause-dropped c = λ list extent top ends.
    let elements = c.args.elements.now in
    c.ended_at.ensures [] no_values
    ∙ same_end list (listed [] no_values elements.place) elements.last c.args.listing c.args.place
    c.args.bits extent top
