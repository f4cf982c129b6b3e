use Rattle.type_parts.specs.CanHave.{can_have_selected}
use Rattle.type_parts.proofs.Known.{ok_more}
use Rattle.type_parts.proofs.can_have.Finder.requested.Goals as goal

pub returns-in-Some : goal.returns-in-Some
returns-in-Some c = rw c.in-Some.is (ok_more c.by_path.result
    (λ all h. h (can_have_selected c.args.terms.now.selection) c.in_ok-known.ensures)
    (rw c.as_slice.ensures.value at c.by_path.ensures.each))
