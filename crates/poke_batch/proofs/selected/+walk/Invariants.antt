use Rattle.std.proofs.Common.{◌+◌, ◌-◌, ◌*◌, length}
use Rattle.value_text.proofs.Puts.{Told}
use Rattle.poke_batch.specs.Selected.{line_of}
use Rattle.poke_batch.specs.TypedLines.{lent_sight, typed_members}
use Rattle.poke_batch.proofs.selected.+walk.Given as goal

abbrev pub decreases-put_each : goal.decreases-put_each
decreases-put_each g l = 3 * length l.steps.now

abbrev pub decreases-put_next : goal.decreases-put_next
decreases-put_next g l = 3 * length l.steps.now + 1

abbrev pub decreases-put_places : goal.decreases-put_places
decreases-put_places g l = 3 * length l.steps.now + 2

abbrev pub decreases-put_members : goal.decreases-put_members
decreases-put_members g l = 3 * length l.steps.now + 1

abbrev pub invariant-put_members-loop-place : goal.invariant-put_members-loop-place
invariant-put_members-loop-place g l =
    Told g.W.Write.contents l.initial.printer l.printer
    (typed_members (lent_sight l.fn.format.sight) l.fn.format.style l.fn.format.mode
    (line_of l.fn.format.line) l.fn.part l.steps
    (l.fn.places.end - l.place) l.place)
    (typed_members (lent_sight l.fn.format.sight) l.fn.format.style l.fn.format.mode
    (line_of l.fn.format.line) l.fn.part l.steps
    (l.fn.places.end - l.fn.places.from) l.fn.places.from)
