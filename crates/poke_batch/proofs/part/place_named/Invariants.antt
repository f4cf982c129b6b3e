use Rattle.std.proofs.Common.{◌≡◌, ◌-◌}
use Rattle.value_store.specs.Refs.{value_shown}
use Rattle.pickle_meaning.specs.Values.{label_of, members_of, member_count}
use Rattle.poke_batch.specs.PathParts.{place_named}
use Rattle.poke_batch.proofs.part.place_named.Given as goal

abbrev pub invariant-loop-place : goal.invariant-loop-place
invariant-loop-place l =
    place_named l.name (label_of (value_shown l.value)) (member_count (members_of (value_shown l.value))) 0
    ≡ place_named l.name (label_of (value_shown l.value))
    (member_count (members_of (value_shown l.value)) - l.place) l.place
