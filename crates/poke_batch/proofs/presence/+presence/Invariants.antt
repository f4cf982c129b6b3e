use Rattle.std.proofs.Common.{◌≡◌, ◌+◌, ◌-◌, ◌*◌, length}
use Rattle.poke_batch.specs.Selected.{line_of}
use Rattle.poke_batch.specs.TypedLines.{has_typed_members}
use Rattle.poke_batch.proofs.presence.+presence.Given as goal

abbrev pub decreases-has_each : goal.decreases-has_each
decreases-has_each l = 3 * length l.steps.now

abbrev pub decreases-has_next : goal.decreases-has_next
decreases-has_next l = 3 * length l.steps.now + 1

abbrev pub decreases-has_places : goal.decreases-has_places
decreases-has_places l = 3 * length l.steps.now + 2

abbrev pub decreases-has_members : goal.decreases-has_members
decreases-has_members l = 3 * length l.steps.now + 1

abbrev pub invariant-has_members-loop-place : goal.invariant-has_members-loop-place
invariant-has_members-loop-place l =
    has_typed_members (line_of l.fn.line) l.fn.part l.steps (l.fn.places.end - l.fn.places.from) l.fn.places.from
    ≡ has_typed_members (line_of l.fn.line) l.fn.part l.steps (l.fn.places.end - l.place) l.place
